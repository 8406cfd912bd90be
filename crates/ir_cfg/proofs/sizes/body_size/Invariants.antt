use Rattle.std.proofs.Common.{◌≡◌, take}
use Rattle.std.specs.List.{sum_by}
use Rattle.ir_cfg.specs.Capped.{capped}
use Rattle.ir_cfg.specs.Sizes.{block_size}
use Rattle.ir_cfg.specs.Reached.{marked}
use Rattle.ir_cfg.proofs.sizes.body_size.Given as goal

abbrev pub invariant-loop-place : goal.invariant-loop-place
invariant-loop-place l = l.size ≡ capped (sum_by block_size (marked l.marks.items (take l.place l.blocks)))
