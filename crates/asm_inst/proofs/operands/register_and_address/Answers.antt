use Rattle.asm_inst.proofs.OperandLemmas.{first_once}
use Rattle.asm_inst.proofs.operands.register_and_address.Goals as goal

pub returns-in_default-based : goal.returns-in_default-based
returns-in_default-based c = λ r offset base hr hb e.
    let found = c.in-Some.ensures in
    c.in_default-based.ensures offset base hb (first_once _ _ _ _ _ found.0 hr found.1 e).1
