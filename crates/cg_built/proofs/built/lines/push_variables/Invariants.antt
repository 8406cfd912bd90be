use Rattle.std.proofs.Common.{◌≡◌, ◌++◌, map, take}
use Rattle.cg_built.proofs.built.lines.push_variables.Given as goal

abbrev pub invariant-loop-variable : goal.invariant-loop-variable
invariant-loop-variable l = l.lines.items ≡ l.initial.lines.items ++ map (λ g. g.line) (take l.variable-index l.variables)
