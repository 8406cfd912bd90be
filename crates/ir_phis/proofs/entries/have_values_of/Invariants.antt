use Rattle.std.proofs.Common.{◌≡◌, take, true}
use Rattle.ir_ident.specs.NameMaps.{value_of}
use Rattle.ir_phis.specs.Entries.{have_values_of}
use Rattle.ir_phis.proofs.entries.have_values_of.Given as goal

abbrev pub invariant-loop-entry : goal.invariant-loop-entry
invariant-loop-entry l = have_values_of (value_of l.first) l.ty l.entries (take l.entry-index l.entries) ≡ true
