use Rattle.std.proofs.Common.{◌≤◌}
use Rattle.ty_core.specs.declared.types.TyList.{size-TyList}
use Rattle.ty_core.proofs.+dropping.Given as goal

abbrev pub invariant-types::TyList::drop-loop-self : goal.invariant-types::TyList::drop-loop-self
invariant-types::TyList::drop-loop-self l = size-TyList l.self ≤ size-TyList l.initial.self
