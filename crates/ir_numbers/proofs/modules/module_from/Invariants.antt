use Rattle.std.proofs.Common.{◌≡◌, ◌++◌, flat_map, length}
use Rattle.std.specs.Vec.Iter.{into_iter_items}
use Rattle.ir_numbers.specs.Modules.{type_of, global_of, function_of, alias_of}
use Rattle.ir_numbers.proofs.modules.module_from.Given as goal

abbrev pub invariant-loop-entity : goal.invariant-loop-entity
invariant-loop-entity l = record {
  types : l.parts.types.items ++ flat_map type_of (into_iter_items l.rest) ≡ flat_map type_of (into_iter_items l.initial.rest);
  globals : l.parts.globals.items ++ flat_map global_of (into_iter_items l.rest) ≡ flat_map global_of (into_iter_items l.initial.rest);
  functions : l.parts.functions.items ++ flat_map function_of (into_iter_items l.rest) ≡ flat_map function_of (into_iter_items l.initial.rest);
  aliases : l.parts.aliases.items ++ flat_map alias_of (into_iter_items l.rest) ≡ flat_map alias_of (into_iter_items l.initial.rest);
}

abbrev pub decreases-loop-entity : goal.decreases-loop-entity
decreases-loop-entity l = length (into_iter_items l.rest)
