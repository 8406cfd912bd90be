use Rattle.std.proofs.Common.{◌≡◌, ◌++◌, take, flat_map}
use Rattle.ir_entities.specs.Items.{entity_sites}
use Rattle.ir_entities.proofs.items.push_top_level.Given as goal

abbrev pub invariant-loop-entity : goal.invariant-loop-entity
invariant-loop-entity l = l.sites.items ≡ l.initial.sites.items ++ flat_map entity_sites (take l.entity-index l.entities)
