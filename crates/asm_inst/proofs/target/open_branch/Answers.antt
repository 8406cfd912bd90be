use Rattle.asm_inst.proofs.target.open_branch.Goals as goal

pub returns-in-None : goal.returns-in-None
returns-in-None c = λ i last h. c.in-None.ensures i.rs1 i.rs2 _ h.2.1 h.2.2 h.3
