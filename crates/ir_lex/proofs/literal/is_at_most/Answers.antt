use Rattle.std.proofs.Common.{arith, sym}
use Rattle.ir_lex.proofs.Decimals.{too_large}
use Rattle.ir_lex.proofs.literal.is_at_most.Goals as goal

pub returns-in_default : goal.returns-in_default
returns-in_default c =
    sym (too_large _ _ _ _ c.loop-digit-test.true c.loop-digit.invariant (grind (arith, c.in_default.ensures, c.ranges.limit.fits)))

pub returns-in_default-checked_add : goal.returns-in_default-checked_add
returns-in_default-checked_add c =
    sym (too_large _ _ _ _ c.loop-digit-test.true c.loop-digit.invariant
    (grind (arith, c.in_default-checked_add.ensures, c.in-Some.ensures, c.saturating_sub.ensures, c.ranges.limit.fits)))
