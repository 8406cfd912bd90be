use Rattle.std.proofs.Common.{◌≡◌, ◌++◌, flat_map, take}
use Rattle.ir_check.specs.Hosts.{is_host}
use Rattle.ir_syntax.specs.Lines.{line_if}
use Rattle.ir_check.proofs.hosts.push_variables.Given as goal

abbrev pub invariant-loop-variable : goal.invariant-loop-variable
invariant-loop-variable l = l.lines.items ≡ l.initial.lines.items ++ flat_map (λ g. line_if (is_host g) g.line) (take l.variable-index l.variables)
