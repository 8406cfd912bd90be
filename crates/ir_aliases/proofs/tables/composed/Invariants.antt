use Rattle.std.proofs.Common.{◌≡◌, take}
use Rattle.ir_aliases.specs.Tables.{composed}
use Rattle.ir_aliases.proofs.tables.composed.Given as goal

abbrev pub invariant-loop-position : goal.invariant-loop-position
invariant-loop-position l = l.table.items ≡ composed (take l.position-index l.first) l.second
