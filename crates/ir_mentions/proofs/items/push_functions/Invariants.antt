use Rattle.std.proofs.Common.{◌≡◌, ◌++◌, flat_map, take}
use Rattle.ir_mentions.specs.Mentions.{function_types}
use Rattle.ir_mentions.proofs.items.push_functions.Given as goal

abbrev pub invariant-loop-function : goal.invariant-loop-function
invariant-loop-function l = l.mentions.types.items ≡ l.initial.mentions.types.items ++ flat_map (function_types l.which) (take l.function-index l.functions)
