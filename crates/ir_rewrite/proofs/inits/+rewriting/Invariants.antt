use Rattle.std.proofs.Common.{◌≡◌, ◌≤◌, ◌++◌, length}
use Rattle.ir_rewrite.specs.Inits.{rewritten_parts}
use Rattle.ir_syntax.specs.InitLists.{parts_before, parts_of}
use Rattle.ir_syntax.specs.Inits.{inits_in}
use Rattle.ir_syntax.specs.declared.init_tree.InitTreeList.{size-InitTreeList}
use Rattle.ir_rewrite.proofs.inits.+rewriting.Given as goal

abbrev pub decreases-rewrite_parts-loop-parts : goal.decreases-rewrite_parts-loop-parts
decreases-rewrite_parts-loop-parts g l = length (parts_of (inits_in l.parts))

abbrev pub invariant-rewrite_parts-loop-parts : goal.invariant-rewrite_parts-loop-parts
invariant-rewrite_parts-loop-parts g l =
    let rewritten = rewritten_parts (g.R.Rewrite.ty_of l.by) (g.R.Rewrite.gep_of l.by) in record {
      all : parts_before (inits_in l.done) ++ parts_of (rewritten (inits_in l.parts)) ≡ parts_of (rewritten (inits_in l.initial.parts));
      shorter : size-InitTreeList l.parts ≤ size-InitTreeList l.initial.parts;
    }
