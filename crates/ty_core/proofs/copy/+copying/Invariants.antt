use Rattle.std.proofs.Common.{◌≡◌, ◌++◌, ◌≤◌, map}
use Rattle.ty_core.specs.Plans.{trees_in}
use Rattle.ty_core.specs.Tree.{tree_of}
use Rattle.ty_core.specs.declared.types.TyList.{size-TyList}
use Rattle.ty_core.proofs.copy.+copying.Given as goal

abbrev pub invariant-copied_list-loop-rest : goal.invariant-copied_list-loop-rest
invariant-copied_list-loop-rest l = record {
  copied : map tree_of l.copies.items ++ trees_in l.rest ≡ trees_in l.initial.rest;
  shorter : size-TyList l.rest ≤ size-TyList l.initial.rest;
}

abbrev pub decreases-copied_type : goal.decreases-copied_type
decreases-copied_type l = goal.size-copied_type l

abbrev pub decreases-copied_list : goal.decreases-copied_list
decreases-copied_list l = goal.size-copied_list l
