use Rattle.std.proofs.Common.{◌≡◌, ◌++◌, flat_map, take}
use Rattle.ir_mentions.specs.Mentions.{global_types}
use Rattle.ir_mentions.proofs.items.push_globals.Given as goal

abbrev pub invariant-loop-global : goal.invariant-loop-global
invariant-loop-global l = l.mentions.types.items ≡ l.initial.mentions.types.items ++ flat_map global_types (take l.global-index l.globals)
