use Rattle.std.proofs.Common.{subst, sym, ap, ◌∙◌}
use Rattle.std.proofs.lemmas.Bool.{false≢true}
use Rattle.rv_isa.specs.Table.{shape}
use Rattle.asm_inst.specs.Targets.{HasRegisters, stands_open}
use Rattle.asm_inst.proofs.OpenLemmas.{registers_once}
use Rattle.asm_inst.proofs.target.open_in_full.Goals as goal
use Rattle.asm_inst.proofs.target.open_in_full.Goals.{in_default-via-in-Some+else-is_in_full, in_default-via-in_default}

pub returns-in_default : goal.returns-in_default
returns-in_default c = λ i last h.
    let op = c.args.op in
    let registers = subst (λ o. HasRegisters (shape o) i) h.1 h.0.registers in
    elim c.in_default.branch [
      | in_default-via-in-Some+else-is_in_full w ↦
          let read = w.in-Some.ensures in
          let same = (registers_once (shape op) w.in-Some.inst i _ _ (read.0 ∙ sym h.1) read.2 registers (read.1 ∙ sym h.0.zero) (sym read.3 ∙ h.3)).0 in
          false≢true (w.if-is_in_full.ensures ∙ ap (λ o. stands_open (shape o) w.in-Some.inst) read.0 ∙ ap (stands_open (shape op)) same ∙ h.2)
      | in_default-via-in_default w ↦ w.in_default.ensures i last (h.1, h.0.zero, registers, h.3)
    ]
