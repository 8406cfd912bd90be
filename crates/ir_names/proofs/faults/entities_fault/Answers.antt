use Rattle.std.proofs.Common.{◌∙◌, ◌<◌, arith, length}
use Rattle.ir_names.proofs.Lines.{least_more}
use Rattle.ir_names.specs.Faults.{entity_faults}
use Rattle.ir_names.specs.Sets.{knows}
use Rattle.ir_names.proofs.faults.entities_fault.Goals as goal

pub loop-entity-preserved : goal.loop-entity-preserved
loop-entity-preserved c =
    let inside : c.loop-entity.entity-index < length c.args.entities.now = omega arith in
    c.earlier-first.ensures
    ∙ least_more (entity_faults (knows c.args.defined.now)) c.args.entities.now c.loop-entity.entity-index c.entity-item.result _ _ inside c.entity-item.is
    c.loop-entity.invariant c.in_ok-entity_fault.ensures
