use Rattle.std.proofs.Common.{◌≡◌, take}
use Rattle.ir_sizes.specs.Measured.{place_of}
use Rattle.ir_ident.specs.NameMaps.{value_of}
use Rattle.ir_ident.specs.declared.name.Name.{Name}
use Rattle.ir_sizes.proofs.table.places_of.Given as goal

abbrev pub invariant-loop-place : goal.invariant-loop-place
invariant-loop-place l = (name : Name) → value_of l.places name ≡ place_of (take l.place l.defs) name
