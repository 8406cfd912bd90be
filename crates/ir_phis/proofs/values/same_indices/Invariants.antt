use Rattle.std.proofs.Common.{◌≡◌, drop}
use Rattle.ir_phis.specs.Values.{same_indices}
use Rattle.ir_phis.proofs.values.same_indices.Given as goal

abbrev pub invariant-loop-index : goal.invariant-loop-index
invariant-loop-index l = same_indices (drop l.index-index l.a) l.rest ≡ same_indices l.a l.initial.rest
