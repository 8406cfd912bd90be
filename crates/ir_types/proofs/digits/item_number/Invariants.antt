use Rattle.std.proofs.Common.{◌≡◌, drop}
use Rattle.ir_lex.specs.Literals.{decimal_after}
use Rattle.ir_types.proofs.digits.item_number.Given as goal

abbrev pub invariant-loop-digit : goal.invariant-loop-digit
invariant-loop-digit l = record {
  kept : decimal_after l.number (drop l.digit-index l.digits) ≡ decimal_after 0 l.digits;
}
