use Rattle.std.proofs.Common.{◌≡◌, take, flat_map}
use Rattle.ir_names.specs.Faults.{entity_faults}
use Rattle.ir_names.specs.Least.{least}
use Rattle.ir_names.specs.Sets.{knows}
use Rattle.ir_names.proofs.faults.entities_fault.Given as goal

abbrev pub invariant-loop-entity : goal.invariant-loop-entity
invariant-loop-entity l = l.first ≡ least (flat_map (entity_faults (knows l.defined)) (take l.entity-index l.entities))
