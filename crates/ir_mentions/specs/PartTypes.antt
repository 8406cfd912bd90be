-- The types that parts of a function write, as often as they write them. Those inside a constant address are left out, and so is
-- `void`.
use Rattle.std.specs.Prelude.{List, [], ◌∷◌}
use Rattle.std.specs.List.{flat_map}
use Rattle.ir_syntax.specs.Types.{TextTree}
use Rattle.ir_syntax.specs.declared.block.Block.{Block}
use Rattle.ir_walk.specs.Parts.{Part, type_part, operand_part, callee_part, label_part, block_parts}

abbrev pub part_types : Part → List TextTree
part_types (type_part ty) = ty ∷ []
part_types (operand_part operand) = []
part_types (callee_part callee) = []
part_types (label_part label) = []

abbrev pub block_types : Block → List TextTree
block_types b = flat_map part_types (block_parts b)
