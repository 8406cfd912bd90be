use Rattle.std.proofs.Common.{◌≡◌, map, take}
use Rattle.ir_aliases.specs.Ends.{base_position}
use Rattle.ir_syntax.specs.declared.alias.Alias.{Alias}
use Rattle.ir_aliases.proofs.tables.base_positions.Given as goal

abbrev pub invariant-loop-alias : goal.invariant-loop-alias
invariant-loop-alias l = l.table.items ≡ map (λ (a : Alias). base_position l.m a.base) (take l.alias-index l.m.aliases)
