use Rattle.std.proofs.Common.{◌≡◌}
use Rattle.ir_sizes.proofs.PassLemmas.{IsPartOfPass}
use Rattle.ir_sizes.specs.Measured.{AreExtents}
use Rattle.ir_sizes.proofs.rounds.pass.Given as goal

abbrev pub invariant-loop-step : goal.invariant-loop-step
invariant-loop-step l = record {
  places : l.table.places ≡ l.initial.table.places;
  pass : IsPartOfPass l.defs l.initial.table.extents.items l.table.extents.items l.found l.is_forward l.step;
  measured : AreExtents l.table.extents.items;
}
