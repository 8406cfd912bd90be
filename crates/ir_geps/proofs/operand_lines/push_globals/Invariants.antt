use Rattle.std.proofs.Common.{◌≡◌, ◌++◌, flat_map, take}
use Rattle.ir_geps.specs.OperandLines.{global_lines}
use Rattle.ir_geps.proofs.operand_lines.push_globals.Given as goal

abbrev pub invariant-loop-global : goal.invariant-loop-global
invariant-loop-global g l = l.lines.items ≡ l.initial.lines.items ++ flat_map (global_lines (g.R.OperandRule.breaks l.rule)) (take l.global-index l.globals)
