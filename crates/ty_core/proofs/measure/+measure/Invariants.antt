use Rattle.std.proofs.Common.{◌≡◌, ◌≤◌, ◌<◌, max}
use Rattle.ty_core.specs.Size.{size_limit, end_of, greatest_align, greatest_size_in}
use Rattle.ty_core.specs.Tree.{trees_of}
use Rattle.ty_core.specs.declared.types.TyList.{size-TyList}
use Rattle.ty_core.proofs.measure.+measure.Given as goal

abbrev pub invariant-struct_layout-loop-rest : goal.invariant-struct_layout-loop-rest
invariant-struct_layout-loop-rest l = record {
  ends : end_of l.packed l.end (trees_of l.rest) ≡ end_of l.packed 0 (trees_of l.initial.rest);
  aligned : max l.greatest (greatest_align (trees_of l.rest)) ≡ greatest_align (trees_of l.initial.rest);
  within : max size_limit (greatest_size_in (trees_of l.rest)) ≡ max size_limit (greatest_size_in (trees_of l.initial.rest));
  small : l.end ≤ size_limit;
  aligns : (0 < l.greatest) × (l.greatest ≤ 32);
  shorter : size-TyList l.rest ≤ size-TyList l.initial.rest;
}

abbrev pub decreases-layout : goal.decreases-layout
decreases-layout l = goal.size-layout l

abbrev pub decreases-struct_layout : goal.decreases-struct_layout
decreases-struct_layout l = goal.size-struct_layout l
