use Rattle.std.proofs.Common.{◌≡◌, ◌++◌, take, drop}
use Rattle.ir_numbers.specs.Numbered.{numbered_after, numbered_entities}
use Rattle.ir_numbers.proofs.numbered.number_each_entity.Given as goal

abbrev pub invariant-loop-entity : goal.invariant-loop-entity
invariant-loop-entity l = take l.entity-index l.entities ++ numbered_after l.place (drop l.entity-index l.entities) ≡ numbered_entities l.initial.entities
