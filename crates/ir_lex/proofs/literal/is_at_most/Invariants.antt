use Rattle.std.proofs.Common.{◌≡◌, drop}
use Rattle.ir_lex.specs.Literals.{decimal_after}
use Rattle.ir_lex.proofs.literal.is_at_most.Given as goal

abbrev pub invariant-loop-digit : goal.invariant-loop-digit
invariant-loop-digit l = decimal_after l.value (drop l.digit-index l.digits) ≡ decimal_after 0 l.digits
