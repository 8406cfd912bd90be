use Rattle.asm_inst.proofs.OperandLemmas.{address_once}
use Rattle.asm_inst.proofs.reader.read_load.Goals as goal

pub returns-in_default : goal.returns-in_default
returns-in_default c = λ x h. c.in_default.ensures x.rd _ x.rs1 h.1.0 h.1.1 h.2

pub returns-in-None : goal.returns-in-None
returns-in-None c = λ x h.
    let found = c.in-Some.ensures in
    c.in-None.ensures x.imm (h.1.3, (address_once _ _ x.rd _ x.rs1 _ _ found.0 h.1.0 found.1 h.1.1 found.2 h.2).1)
