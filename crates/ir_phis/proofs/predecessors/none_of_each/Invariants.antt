use Rattle.std.proofs.Common.{◌≡◌, [], replicate}
use Rattle.ir_phis.proofs.predecessors.none_of_each.Given as goal

abbrev pub invariant-loop-done : goal.invariant-loop-done
invariant-loop-done l = l.all.items ≡ replicate l.done []
