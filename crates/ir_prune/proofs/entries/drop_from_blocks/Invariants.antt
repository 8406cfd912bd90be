use Rattle.std.proofs.Common.{◌≡◌, ◌++◌, drop, map, take}
use Rattle.ir_ident.specs.NameMaps.{has_name}
use Rattle.ir_prune.specs.Pruned.{block_without}
use Rattle.ir_prune.proofs.entries.drop_from_blocks.Given as goal

abbrev pub invariant-loop-block : goal.invariant-loop-block
invariant-loop-block l = take l.block-index l.blocks ++ map (block_without (has_name l.labels)) (drop l.block-index l.blocks) ≡ map (block_without (has_name l.labels)) l.initial.blocks
