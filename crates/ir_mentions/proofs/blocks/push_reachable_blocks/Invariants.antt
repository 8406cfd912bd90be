use Rattle.std.proofs.Common.{◌≡◌, ◌++◌, flat_map, take}
use Rattle.ir_mentions.specs.PartTypes.{block_types}
use Rattle.ir_cfg.specs.Reached.{marked}
use Rattle.ir_mentions.proofs.blocks.push_reachable_blocks.Given as goal

abbrev pub invariant-loop-place : goal.invariant-loop-place
invariant-loop-place l = l.mentions.types.items ≡ l.initial.mentions.types.items ++ flat_map block_types (marked l.marks.items (take l.place l.blocks))
