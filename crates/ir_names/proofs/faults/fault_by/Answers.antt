use Rattle.std.proofs.Common.{◌∙◌}
use Rattle.ir_names.proofs.FaultLemmas.{both}
use Rattle.ir_names.specs.Faults.{entity_faults, is_defined}
use Rattle.ir_names.specs.Sets.{knows}
use Rattle.ir_names.proofs.faults.fault_by.Goals as goal

pub returns : goal.returns
returns c =
    c.earlier.ensures
    ∙ both c.args.sites.now entity_faults c.args.entities.now (knows c.in_ok-defined.defined) (is_defined c.args.sites.now) _ _
    c.number_fault.ensures c.in_ok-defined.ensures c.in_ok-uses.ensures
