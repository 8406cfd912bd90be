use Rattle.std.proofs.Common.{◌≡◌, ◌≤◌, ◌+◌, []}
use Rattle.ir_loaded.specs.Pairs.{loaded}
use Rattle.ir_sem.specs.Globals.{part_bytes}
use Rattle.ir_syntax.specs.declared.init_tree.InitTree.{size-InitTree}
use Rattle.ir_syntax.specs.declared.init_tree.InitTreeList.{size-InitTreeList}
use Rattle.ir_syntax.specs.Inits.{inits_in}
use Rattle.ir_data.proofs.init.+init.Given as goal

abbrev pub invariant-push_parts-loop-rest : goal.invariant-push_parts-loop-rest
invariant-push_parts-loop-rest l = record {
  all : part_bytes (loaded l.l) l.packed l.done.items (inits_in l.rest) ≡ part_bytes (loaded l.l) l.packed [] (inits_in l.parts);
  shorter : size-InitTreeList l.rest ≤ size-InitTreeList l.initial.rest;
}

abbrev pub decreases-push_init : goal.decreases-push_init
decreases-push_init l = size-InitTree l.init.now

abbrev pub decreases-push_parts : goal.decreases-push_parts
decreases-push_parts l = size-InitTreeList l.parts.now

abbrev pub decreases-push_part : goal.decreases-push_part
decreases-push_part l = size-InitTree l.init.now + 1
