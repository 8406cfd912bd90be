use Rattle.std.proofs.Common.{arith, ◌≡◌, suc, ◌+◌, ◌-◌, true, nat_lt}
use Rattle.std.proofs.lemmas.Bool.Decides.{nat_tests}
use Rattle.ir_call_rules.proofs.PieceLemmas.{stepped}
use Rattle.ir_call_rules.proofs.pieces.piece_count.Goals as goal

pub loop-done-preserved : goal.loop-done-preserved
loop-done-preserved c =
    let more : c.args.size - c.loop-done._done ≡ suc (c.args.size - (c.loop-done._done + 1)) = grind (arith, nat_tests) in
    let on : nat_lt c.loop-done.offset c.args.size ≡ true = grind (arith, nat_tests) in
    record {
      counted = stepped c.loop-done.count _ _ _ _ _ _ _ more on c.piece_at-offset.ensures.value c.loop-done.invariant.counted;
      few = omega arith;
      within = grind (arith, nat_tests);
    }
