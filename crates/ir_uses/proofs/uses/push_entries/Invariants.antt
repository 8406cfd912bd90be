use Rattle.std.proofs.Common.{◌≡◌, ◌++◌, flat_map, take}
use Rattle.ir_ident.specs.NameMaps.{value_of}
use Rattle.ir_uses.specs.Uses.{entry_uses}
use Rattle.ir_uses.proofs.uses.push_entries.Given as goal

abbrev pub invariant-loop-entry : goal.invariant-loop-entry
invariant-loop-entry l = l.uses.items ≡ l.initial.uses.items ++ flat_map (entry_uses (value_of l.places) l.blocks l.line) (take l.entry-index l.entries)
