use Rattle.std.proofs.Common.{◌≡◌, ◌++◌, map, take}
use Rattle.cg_built.proofs.built.lines.push_aliases.Given as goal

abbrev pub invariant-loop-alias : goal.invariant-loop-alias
invariant-loop-alias l = l.lines.items ≡ l.initial.lines.items ++ map (λ a. a.line) (take l.alias-index l.aliases)
