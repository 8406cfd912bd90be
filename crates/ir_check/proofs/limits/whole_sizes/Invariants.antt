use Rattle.std.proofs.Common.{◌≡◌, take}
use Rattle.std.specs.List.{sum_by}
use Rattle.ir_cfg.specs.Capped.{capped}
use Rattle.ir_cfg.specs.Sizes.{whole_size}
use Rattle.ir_check.proofs.limits.whole_sizes.Given as goal

abbrev pub invariant-loop-function : goal.invariant-loop-function
invariant-loop-function l = l.total ≡ capped (sum_by whole_size (take l.function-index l.functions))
