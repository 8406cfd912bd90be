use Rattle.std.proofs.Common.{◌∙◌, arith, ap, subst, sym}
use Rattle.std.proofs.lemmas.List.{take_all}
use Rattle.ir_slots.proofs.ResultLemmas.{are_phi_slots, phis_include}
use Rattle.ir_slots.specs.Results.{ArePhiSlots, phi_slots}
use Rattle.ir_slots.specs.Slots.{slot_names}
use Rattle.ir_program.proofs.block.phi_slots.Goals as goal

pub returns : goal.returns
returns c =
    let names = slot_names c.args.slots.now in
    let phis = c.args.phis.now in
    subst (ArePhiSlots names phis) (sym (c.loop-phi.invariant ∙ ap (phi_slots names) (take_all c.loop-phi.phi-index phis (omega arith))))
    (are_phi_slots names phis (λ name is. c.requires name (phis_include phis name is)))
