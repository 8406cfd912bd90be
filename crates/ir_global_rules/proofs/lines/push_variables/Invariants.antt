use Rattle.std.proofs.Common.{◌≡◌, ◌++◌, flat_map, take}
use Rattle.ir_global_rules.specs.GlobalLines.{variable_lines}
use Rattle.ir_global_rules.proofs.lines.push_variables.Given as goal

abbrev pub invariant-loop-global : goal.invariant-loop-global
invariant-loop-global l = l.lines.items ≡ l.initial.lines.items ++ flat_map (variable_lines l.types) (take l.global-index l.globals)
