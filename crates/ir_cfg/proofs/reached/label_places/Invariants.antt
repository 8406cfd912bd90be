use Rattle.std.proofs.Common.{◌≡◌, take}
use Rattle.ir_ident.specs.NameMaps.{value_of}
use Rattle.ir_cfg.specs.Reached.{label_place}
use Rattle.ir_ident.specs.declared.name.Name.{Name}
use Rattle.ir_cfg.proofs.reached.label_places.Given as goal

abbrev pub invariant-loop-place : goal.invariant-loop-place
invariant-loop-place l = (name : Name) → value_of l.places name ≡ label_place (take l.place l.blocks) name
