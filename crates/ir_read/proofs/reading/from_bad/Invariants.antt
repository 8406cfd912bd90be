use Rattle.std.proofs.Common.{◌≡◌, ◌-◌, drop, length}
use Rattle.ir_read.proofs.reading.from_bad.Given as goal

abbrev pub invariant-loop-rest : goal.invariant-loop-rest
invariant-loop-rest l = drop (length l.rest - l.fn.left) l.rest ≡ drop (length l.fn.rest - l.fn.left) l.fn.rest

abbrev pub decreases-loop-rest : goal.decreases-loop-rest
decreases-loop-rest l = length l.rest
