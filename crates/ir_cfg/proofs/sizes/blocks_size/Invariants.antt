use Rattle.std.proofs.Common.{◌≡◌, take}
use Rattle.std.specs.List.{sum_by}
use Rattle.ir_cfg.specs.Capped.{capped}
use Rattle.ir_cfg.specs.Sizes.{block_size}
use Rattle.ir_cfg.proofs.sizes.blocks_size.Given as goal

abbrev pub invariant-loop-block : goal.invariant-loop-block
invariant-loop-block l = l.size ≡ capped (sum_by block_size (take l.block-index l.blocks))
