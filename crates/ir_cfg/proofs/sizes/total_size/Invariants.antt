use Rattle.std.proofs.Common.{◌≡◌, take}
use Rattle.std.specs.List.{sum}
use Rattle.ir_cfg.specs.Capped.{capped}
use Rattle.ir_cfg.proofs.sizes.total_size.Given as goal

abbrev pub invariant-loop-size : goal.invariant-loop-size
invariant-loop-size l = l.total ≡ capped (sum (take l.size-index l.sizes))
