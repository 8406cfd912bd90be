use Rattle.std.proofs.Common.{rules, ◌≡◌, ◌∙◌}
use Rattle.ir_rewrite.proofs.InitLemmas.{same_if_same_list}
use Rattle.ir_rewrite.specs.Inits.{rewritten_parts}
use Rattle.ir_syntax.specs.InitLists.{parts_of}
use Rattle.ir_syntax.specs.Inits.{inits_in}
use Rattle.ir_rewrite.proofs.inits.+rewriting.Goals as goal

pub rewrite_parts-returns : goal.rewrite_parts-returns
rewrite_parts-returns g t c =
    let rewritten = rewritten_parts (g.R.Rewrite.ty_of c.args.by.now) (g.R.Rewrite.gep_of c.args.by.now) in
    let put : inits_in c.replace.new.dest ≡ inits_in c.turned_round.result = search rules in
    let all : parts_of (inits_in c.turned_round.result) ≡ parts_of (rewritten (inits_in c.args.parts.now)) = search rules in
    put ∙ same_if_same_list _ _ all
