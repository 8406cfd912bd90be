use Rattle.std.proofs.Common.{◌≡◌, ◌++◌, drop, map, take}
use Rattle.ir_prune.specs.Pruned.{pruned_function}
use Rattle.ir_prune.proofs.pruned.prune_each.Given as goal

abbrev pub invariant-loop-function : goal.invariant-loop-function
invariant-loop-function l = take l.function-index l.functions ++ map pruned_function (drop l.function-index l.functions) ≡ map pruned_function l.initial.functions
