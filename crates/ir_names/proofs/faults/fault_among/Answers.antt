use Rattle.std.proofs.Common.{◌∙◌, ◌||◌, ap}
use Rattle.ir_names.proofs.FaultLemmas.{both}
use Rattle.ir_names.specs.Faults.{is_defined, use_faults}
use Rattle.ir_names.specs.Sets.{knows}
use Rattle.ir_names.proofs.faults.fault_among.Goals as goal

pub returns : goal.returns
returns c =
    let defined = knows c.args.defined.now in
    let own = knows c.in_ok-own.own in
    let at = is_defined c.args.items.now in
    c.earlier.ensures
    ∙ both c.args.items.now use_faults c.args.uses.now (λ s. defined s || own s) (λ s. defined s || at s) _ _
    c.number_fault.ensures (λ s. ap (λ known. defined s || known) (c.in_ok-own.ensures s)) c.use_fault.ensures
