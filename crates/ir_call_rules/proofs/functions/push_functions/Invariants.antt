use Rattle.std.proofs.Common.{◌≡◌, ◌++◌, flat_map, take}
use Rattle.ir_call_rules.specs.CallLines.{function_lines}
use Rattle.ir_call_rules.specs.Ops.{callee_of}
use Rattle.ir_call_rules.proofs.functions.push_functions.Given as goal

abbrev pub invariant-loop-function : goal.invariant-loop-function
invariant-loop-function l = l.lines.items ≡ l.initial.lines.items ++ flat_map (function_lines (callee_of l.ends)) (take l.function-index l.functions)
