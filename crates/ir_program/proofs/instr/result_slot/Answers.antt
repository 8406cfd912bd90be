use Rattle.std.proofs.Common.{Some, inl, refl, subst, sym}
use Rattle.ir_slots.proofs.ResultLemmas.{result_slot}
use Rattle.ir_slots.specs.Results.{Includes, IsSlot}
use Rattle.ir_slots.specs.Slots.{slot_names, value_names}
use Rattle.ir_walk.specs.Locals.{in_result}
use Rattle.ir_program.proofs.instr.result_slot.Goals as goal

pub returns-in-Some : goal.returns-in-Some
returns-in-Some c =
    let names = slot_names c.args.slots.now in
    let name = c.in-Some.name in
    let all = subst (λ result. Includes names (in_result value_names c.args.instr.now.line result)) c.in-Some.is c.requires in
    subst (λ result. IsSlot names result c.slot.result) (sym c.in-Some.is)
    (subst (IsSlot names (Some name)) (sym c.slot.ensures) (result_slot names name (all name (inl refl))))
