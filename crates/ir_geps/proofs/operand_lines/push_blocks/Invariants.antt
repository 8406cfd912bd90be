use Rattle.std.proofs.Common.{◌≡◌, ◌++◌, flat_map, take}
use Rattle.ir_geps.specs.OperandLines.{block_lines}
use Rattle.ir_geps.proofs.operand_lines.push_blocks.Given as goal

abbrev pub invariant-loop-block : goal.invariant-loop-block
invariant-loop-block g l = l.lines.items ≡ l.initial.lines.items ++ flat_map (block_lines (g.R.OperandRule.op_breaks l.rule) (g.R.OperandRule.breaks l.rule)) (take l.block-index l.blocks)
