use Rattle.rv_isa.specs.Table.{shape}
use Rattle.asm_inst.proofs.FieldLemmas.{add_signed}
use Rattle.asm_inst.proofs.FormLemmas.{li_form}
use Rattle.asm_inst.proofs.OperandLemmas.{first_once}
use Rattle.asm_inst.proofs.reader.read_li.Goals as goal

pub returns-in_default : goal.returns-in_default
returns-in_default c = λ x h. c.in_default.ensures x.rd _ h.0.inst.rd h.2

pub returns-in-None : goal.returns-in-None
returns-in-None c = λ x h.
    let found = c.in-Some.ensures in
    c.in-None.ensures x.imm
    (add_signed x h.0 (li_form (shape x.op) x h.1).0, (first_once _ _ x.rd _ _ found.0 h.0.inst.rd found.1 h.2).1)
