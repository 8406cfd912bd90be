use Rattle.std.proofs.Common.{◌≡◌}
use Rattle.ir_ident.specs.NameMaps.{value_of}
use Rattle.ir_cfg.specs.Reached.{label_place}
use Rattle.ir_cfg.proofs.SearchLemmas.{Search}
use Rattle.ir_ident.specs.declared.name.Name.{Name}
use Rattle.ir_cfg.proofs.reached.reachable_marks.Given as goal

abbrev pub invariant-loop-step : goal.invariant-loop-step
invariant-loop-step l = record {
  places : (name : Name) → value_of l.places name ≡ label_place l.blocks name;
  search : Search l.blocks l.step l.marks.items l.todo.items;
}
