use Rattle.asm_inst.proofs.OperandLemmas.{first_once}
use Rattle.asm_inst.proofs.operands.two_registers.Goals as goal

pub returns-in_default-one_register : goal.returns-in_default-one_register
returns-in_default-one_register c = λ r s last hr hs e.
    let found = c.in-Some.ensures in
    c.in_default-one_register.ensures s last hs (first_once _ _ _ _ _ found.0 hr found.1 e).1
