use Rattle.std.proofs.Common.{◌≡◌, ◌++◌, flat_map, take}
use Rattle.ir_geps.specs.OperandLines.{function_lines}
use Rattle.ir_geps.proofs.operand_lines.push_functions.Given as goal

abbrev pub invariant-loop-function : goal.invariant-loop-function
invariant-loop-function g l = l.lines.items ≡ l.initial.lines.items ++ flat_map (function_lines (g.R.OperandRule.op_breaks l.rule) (g.R.OperandRule.breaks l.rule)) (take l.function-index l.functions)
