use Rattle.std.proofs.Common.{◌≡◌, take}
use Rattle.ir_ident.specs.NameMaps.{value_of}
use Rattle.ir_ident.specs.declared.name.Name.{Name}
use Rattle.ir_slots.specs.Slots.{slot_of}
use Rattle.ir_slots.proofs.slots.slots_of.Given as goal

abbrev pub invariant-loop-place : goal.invariant-loop-place
invariant-loop-place l = (name : Name) → value_of l.slots name ≡ slot_of (take l.place l.names) name
