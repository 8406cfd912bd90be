-- How many instructions, phis and terminators a function has in the blocks that some path reaches.
use Rattle.std.specs.Prelude.{ℕ, ◌+◌, Option, None, Some, List, length}
use Rattle.std.specs.List.{sum_by}
use Rattle.ir_cfg.specs.Reached.{reachable_body}
use Rattle.ir_syntax.specs.declared.block.Block.{Block}
use Rattle.ir_syntax.specs.declared.function.Function.{Function}
use Rattle.ir_syntax.specs.declared.module.Module.{Module}

-- the phis, the instructions and the terminator
abbrev pub block_size : Block → ℕ
block_size b = length b.phis + length b.instrs + 1

abbrev pub function_size : Function → ℕ
function_size f = sum_by block_size (reachable_body f.blocks)

-- the same of all its blocks
abbrev pub whole_size : Function → ℕ
whole_size f = body_size f.blocks
  where
    body_size : Option (List Block) → ℕ
    body_size None = 0
    body_size (Some blocks) = sum_by block_size blocks

abbrev pub module_size : Module → ℕ
module_size m = sum_by function_size m.functions
