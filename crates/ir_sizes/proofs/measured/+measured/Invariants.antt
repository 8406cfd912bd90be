use Rattle.std.proofs.Common.{◌≡◌, ◌≤◌}
use Rattle.ir_sizes.specs.Extents.{IsExtent, no_fields}
use Rattle.ir_sizes.specs.Measured.{known_by, measured_fields}
use Rattle.ir_syntax.specs.Types.{trees_in}
use Rattle.ir_syntax.specs.declared.tree.TypeTreeList.{size-TypeTreeList}
use Rattle.ir_sizes.proofs.measured.+measured.Given as goal

abbrev pub decreases-measured : goal.decreases-measured
decreases-measured l = goal.size-measured l

abbrev pub decreases-measured_fields : goal.decreases-measured_fields
decreases-measured_fields l = goal.size-measured_fields l

abbrev pub invariant-measured_fields-loop-rest : goal.invariant-measured_fields-loop-rest
invariant-measured_fields-loop-rest l = record {
  rests : measured_fields (known_by l.table) l.levels l.packed l.extent (trees_in l.rest)
      ≡ measured_fields (known_by l.table) l.levels l.packed no_fields (trees_in l.initial.rest);
  measured : IsExtent l.extent;
  flat : l.extent.levels ≤ l.levels;
  shorter : size-TypeTreeList l.rest ≤ size-TypeTreeList l.initial.rest;
}
