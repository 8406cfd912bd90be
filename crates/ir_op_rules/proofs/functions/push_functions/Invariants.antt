use Rattle.std.proofs.Common.{◌≡◌, ◌++◌, flat_map, take}
use Rattle.ir_op_rules.specs.OpLines.{function_lines}
use Rattle.ir_sizes.specs.Sized.{layout_in}
use Rattle.ir_op_rules.proofs.functions.push_functions.Given as goal

abbrev pub invariant-loop-function : goal.invariant-loop-function
invariant-loop-function l = l.lines.items ≡ l.initial.lines.items ++ flat_map (function_lines (layout_in l.types)) (take l.function-index l.functions)
