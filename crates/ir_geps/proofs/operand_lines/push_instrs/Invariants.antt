use Rattle.std.proofs.Common.{◌≡◌, ◌++◌, flat_map, take}
use Rattle.ir_geps.specs.OperandLines.{instr_lines}
use Rattle.ir_geps.proofs.operand_lines.push_instrs.Given as goal

abbrev pub invariant-loop-instr : goal.invariant-loop-instr
invariant-loop-instr g l = l.lines.items ≡ l.initial.lines.items ++ flat_map (instr_lines (g.R.OperandRule.op_breaks l.rule) (g.R.OperandRule.breaks l.rule)) (take l.instr-index l.instrs)
