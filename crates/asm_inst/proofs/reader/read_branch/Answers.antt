use Rattle.asm_inst.proofs.OperandLemmas.{second_once}
use Rattle.asm_inst.proofs.reader.read_branch.Goals as goal

pub returns-in_default : goal.returns-in_default
returns-in_default c = λ x h. c.in_default.ensures x.rs1 x.rs2 _ h.1.1 h.1.2 h.2

pub returns-in-None : goal.returns-in-None
returns-in-None c = λ x h.
    let found = c.in-Some.ensures in
    c.in-None.ensures x.imm (h.1.3, (second_once _ _ _ x.rs1 x.rs2 _ _ found.0 found.1 h.1.1 h.1.2 found.2 h.2).2)
