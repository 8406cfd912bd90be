use Rattle.std.proofs.Common.{◌≡◌, ◌+◌, ◌≤◌}
use Rattle.ty_core.specs.Places.{places_in}
use Rattle.ty_core.specs.Plans.{capped}
use Rattle.ty_core.specs.Tree.{trees_of}
use Rattle.ty_core.specs.declared.types.TyList.{size-TyList}
use Rattle.ty_core.proofs.count.+counting.Given as goal

abbrev pub invariant-field_places-loop-rest : goal.invariant-field_places-loop-rest
invariant-field_places-loop-rest l = record {
  total : capped (l.total + places_in (trees_of l.rest)) ≡ capped (places_in (trees_of l.initial.rest));
  word : l.total ≤ 18446744073709551615;
  shorter : size-TyList l.rest ≤ size-TyList l.initial.rest;
}

abbrev pub decreases-type_places : goal.decreases-type_places
decreases-type_places l = goal.size-type_places l

abbrev pub decreases-field_places : goal.decreases-field_places
decreases-field_places l = goal.size-field_places l
