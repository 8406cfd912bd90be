use Rattle.std.proofs.Common.{length}
use Rattle.asm_read.proofs.TextLemmas.{AreReadUpTo}
use Rattle.asm_read.proofs.lines.read_lines.Given as goal

abbrev pub invariant-loop-line : goal.invariant-loop-line
invariant-loop-line l = AreReadUpTo l.text l.readings.items l.rest

abbrev pub decreases-loop-line : goal.decreases-loop-line
decreases-loop-line l = length l.rest
