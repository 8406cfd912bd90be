use Rattle.std.proofs.Common.{◌≡◌, take}
use Rattle.ir_ident.specs.NameMaps.{value_of}
use Rattle.ir_ident.specs.declared.name.Name.{Name}
use Rattle.ir_phis.specs.Entries.{first_entry}
use Rattle.ir_phis.proofs.entries.first_entries.Given as goal

abbrev pub invariant-loop-place : goal.invariant-loop-place
invariant-loop-place l = (name : Name) → value_of l.first name ≡ first_entry (take l.place l.entries) name
