-- How many values a function may name.
use Rattle.std.specs.Prelude.{ℕ, ◌+◌, List, length}
use Rattle.std.specs.List.{sum_by}
use Rattle.ir_syntax.specs.declared.block.Block.{Block}
use Rattle.ir_syntax.specs.declared.function.Param.{Param}

-- its phis and its instructions
abbrev pub block_values : Block → ℕ
block_values b = length b.phis + length b.instrs

-- the parameters, and the phis and instructions of all blocks
abbrev pub value_count : List Param → List Block → ℕ
value_count params blocks = length params + sum_by block_values blocks
