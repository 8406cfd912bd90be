use Rattle.asm_inst.proofs.OperandLemmas.{second_once}
use Rattle.asm_inst.proofs.reader.read_immediate.Goals as goal

pub returns-in_default : goal.returns-in_default
returns-in_default c = λ x h. c.in_default.ensures x.rd x.rs1 _ h.1.0 h.1.1 h.2

pub returns-in-None : goal.returns-in-None
returns-in-None c = λ x h.
    let found = c.in-Some.ensures in
    c.in-None.ensures x.imm (h.1.3, (second_once _ _ _ x.rd x.rs1 _ _ found.0 found.1 h.1.0 h.1.1 found.2 h.2).2)
