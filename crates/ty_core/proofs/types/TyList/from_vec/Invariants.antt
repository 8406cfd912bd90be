use Rattle.std.proofs.Common.{◌≡◌, ◌++◌, length}
use Rattle.ty_core.specs.Tree.{types_in}
use Rattle.ty_core.proofs.types.TyList.from_vec.Given as goal

abbrev pub decreases-loop-ty : goal.decreases-loop-ty
decreases-loop-ty l = length l.types.items

abbrev pub invariant-loop-ty : goal.invariant-loop-ty
invariant-loop-ty l = l.types.items ++ types_in l.list ≡ l.initial.types.items
