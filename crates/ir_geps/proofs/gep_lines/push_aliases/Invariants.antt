use Rattle.std.proofs.Common.{◌≡◌, ◌++◌, flat_map, take}
use Rattle.ir_geps.specs.GepLines.{alias_lines}
use Rattle.ir_geps.proofs.gep_lines.push_aliases.Given as goal

abbrev pub invariant-loop-alias : goal.invariant-loop-alias
invariant-loop-alias l = l.lines.items ≡ l.initial.lines.items ++ flat_map (alias_lines l.types) (take l.alias-index l.aliases)
