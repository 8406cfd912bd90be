use Rattle.std.proofs.Common.{◌≡◌, length}
use Rattle.ir_read.specs.Refusals.{last_line}
use Rattle.ir_read.proofs.Ends.{later_line}
use Rattle.ir_read.proofs.reading.last_line.Given as goal

abbrev pub invariant-loop-line : goal.invariant-loop-line
invariant-loop-line l = later_line l.line l.rest ≡ last_line l.fn.rest

abbrev pub decreases-loop-line : goal.decreases-loop-line
decreases-loop-line l = length l.rest
