use Rattle.std.proofs.Common.{◌≡◌, None, replicate}
use Rattle.ir_sizes.proofs.rounds.no_extents.Given as goal

abbrev pub invariant-loop : goal.invariant-loop
invariant-loop l = l.extents.items ≡ replicate l.counter None
