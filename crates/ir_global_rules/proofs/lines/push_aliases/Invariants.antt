use Rattle.std.proofs.Common.{◌≡◌, ◌++◌, flat_map, take}
use Rattle.ir_global_rules.specs.GlobalLines.{alias_lines}
use Rattle.ir_global_rules.proofs.lines.push_aliases.Given as goal

abbrev pub invariant-loop-alias : goal.invariant-loop-alias
invariant-loop-alias l = l.lines.items ≡ l.initial.lines.items ++ flat_map (alias_lines l.types) (take l.alias-index l.aliases)
