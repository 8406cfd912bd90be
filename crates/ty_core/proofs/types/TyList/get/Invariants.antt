use Rattle.std.proofs.Common.{◌≡◌, slice_get}
use Rattle.ty_core.specs.Tree.{types_in}
use Rattle.ty_core.proofs.types.TyList.get.Given as goal

abbrev pub invariant-loop-rest : goal.invariant-loop-rest
invariant-loop-rest l = slice_get (types_in l.rest) l.left ≡ slice_get (types_in l.initial.rest) l.index
