use Rattle.asm_inst.proofs.OperandLemmas.{after_comma}
use Rattle.asm_inst.proofs.operands.two_operands.Goals as goal

pub returns-in_default-after : goal.returns-in_default-after
returns-in_default-after c = λ a b absent e.
    c.in_default-after.ensures b (after_comma _ _ _ a b c.in-Some.ensures.0 c.in-Some.ensures.1 absent e)
