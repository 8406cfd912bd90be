use Rattle.std.proofs.Common.{◌≡◌, ◌++◌, flat_map, take}
use Rattle.ir_mentions.specs.PartTypes.{block_types}
use Rattle.ir_mentions.proofs.blocks.push_all_blocks.Given as goal

abbrev pub invariant-loop-block : goal.invariant-loop-block
invariant-loop-block l = l.mentions.types.items ≡ l.initial.mentions.types.items ++ flat_map block_types (take l.block-index l.blocks)
