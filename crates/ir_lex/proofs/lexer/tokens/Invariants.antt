use Rattle.std.proofs.Common.{length, ◌-◌}
use Rattle.ir_lex.proofs.Keeping.{Kept}
use Rattle.ir_lex.proofs.lexer.tokens.Given as goal

abbrev pub invariant-loop-at : goal.invariant-loop-at
invariant-loop-at l = Kept l.bytes l.at l.line l.tokens.items

abbrev pub decreases-loop-at : goal.decreases-loop-at
decreases-loop-at l = length l.bytes - l.at
