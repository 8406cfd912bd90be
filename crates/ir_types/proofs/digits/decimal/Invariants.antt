use Rattle.std.proofs.Common.{◌≡◌, ◌≤◌, ◌^◌, ◌-◌, drop, min}
use Rattle.ir_lex.specs.Literals.{decimal_after}
use Rattle.ir_types.proofs.digits.decimal.Given as goal

abbrev pub invariant-loop-digit : goal.invariant-loop-digit
invariant-loop-digit l = record {
  within : l.value ≤ 2 ^ 128 - 1;
  kept : min (decimal_after l.value (drop l.digit-index l.digits)) (2 ^ 128 - 1) ≡ min (decimal_after 0 l.digits) (2 ^ 128 - 1);
}
