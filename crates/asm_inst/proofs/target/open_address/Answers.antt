use Rattle.asm_inst.proofs.target.open_address.Goals as goal

pub returns-in-None : goal.returns-in-None
returns-in-None c = λ i last h. c.in-None.ensures i.rd _ i.rs1 h.2.0 h.2.1 h.3
