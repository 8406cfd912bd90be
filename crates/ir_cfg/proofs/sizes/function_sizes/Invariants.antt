use Rattle.std.proofs.Common.{◌≡◌, map, take}
use Rattle.ir_cfg.specs.Capped.{capped}
use Rattle.ir_cfg.specs.Sizes.{function_size}
use Rattle.ir_cfg.proofs.sizes.function_sizes.Given as goal

abbrev pub invariant-loop-function : goal.invariant-loop-function
invariant-loop-function l = l.sizes.items ≡ map (λ f. capped (function_size f)) (take l.function-index l.functions)
