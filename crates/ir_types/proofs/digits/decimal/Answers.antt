use Rattle.std.proofs.Common.{arith, rules}
use Rattle.ir_types.proofs.Capping.{all_digits, one_digit_more}
use Rattle.ir_types.proofs.digits.decimal.Goals as goal

pub loop-digit-preserved : goal.loop-digit-preserved
loop-digit-preserved c = record {
  within = grind (arith, c.saturating_add-value.ensures);
  kept = one_digit_more _ c.loop-digit.value _ c.args.digits.now c.loop-digit.digit-index _ c.loop-digit-test.true (search rules) c.loop-digit.invariant.kept;
}

pub returns : goal.returns
returns c = all_digits _ _ c.args.digits.now c.loop-digit.digit-index _ (search rules) c.loop-digit.invariant.within c.loop-digit.invariant.kept
