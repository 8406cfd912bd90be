use Rattle.std.proofs.Common.{◌≡◌, ◌++◌, ◌-◌, length}
use Rattle.ir_lex.specs.Escapes.{unescaped}
use Rattle.ir_lex.proofs.Unescaping.{left_of}
use Rattle.ir_types.proofs.quoted.unescaped.Given as goal

abbrev pub invariant-loop-at : goal.invariant-loop-at
invariant-loop-at l = l.bytes.items ++ left_of l.quoted l.at ≡ unescaped l.quoted

abbrev pub decreases-loop-at : goal.decreases-loop-at
decreases-loop-at l = length l.quoted - l.at
