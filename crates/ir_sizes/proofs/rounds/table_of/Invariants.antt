use Rattle.std.proofs.Common.{◌≡◌}
use Rattle.ir_ident.specs.NameMaps.{value_of}
use Rattle.ir_ident.specs.declared.name.Name.{Name}
use Rattle.ir_sizes.specs.Measured.{AreExtents, extents_after, place_of}
use Rattle.ir_sizes.specs.Passes.{Below, IsPart}
use Rattle.ir_sizes.proofs.rounds.table_of.Given as goal

abbrev pub invariant-loop-round : goal.invariant-loop-round
invariant-loop-round l = record {
  places : (name : Name) → value_of l.table.places name ≡ place_of l.defs name;
  part : IsPart l.defs l.table.extents.items;
  rounds : Below (extents_after l.defs l.round) l.table.extents.items;
  measured : AreExtents l.table.extents.items;
}
