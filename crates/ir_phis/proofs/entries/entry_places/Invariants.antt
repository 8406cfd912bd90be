use Rattle.std.proofs.Common.{◌≡◌, take}
use Rattle.ir_ident.specs.NameMaps.{value_of}
use Rattle.ir_phis.specs.Entries.{entry_places}
use Rattle.ir_phis.proofs.entries.entry_places.Given as goal

abbrev pub invariant-loop-entry : goal.invariant-loop-entry
invariant-loop-entry l = l.found.items ≡ entry_places (value_of l.places) (take l.entry-index l.entries)
