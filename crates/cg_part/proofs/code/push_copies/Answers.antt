use Rattle.std.proofs.Common.{◌≤◌, ◌∙◌, arith}
use Rattle.cg_part.proofs.CodeLemmas.{copies_more}
use Rattle.cg_part.proofs.code.push_copies.Goals as goal

pub loop-place-preserved : goal.loop-place-preserved
loop-place-preserved c =
    let before : c.args.first ≤ c.loop-place.place = omega arith in
    c.in_ok-push.ensures.items
    ∙ copies_more c.args.rd c.args.first c.loop-place.place c.args.code.now.items _ _ before c.loop-place.invariant c.mv.ensures
