use Rattle.asm_inst.proofs.OperandLemmas.{operands_once}
use Rattle.asm_inst.proofs.RegisterLemmas.{register_absent}
use Rattle.asm_inst.proofs.operands.one_register.Goals as goal

pub returns-in_default : goal.returns-in_default
returns-in_default c = λ r last h e. c.in_default.ensures _ _ (register_absent r h) e

pub returns-in_default-read_register : goal.returns-in_default-read_register
returns-in_default-read_register c = λ r last h e.
    let found = c.in-Some.ensures in
    c.in_default-read_register.ensures r (h, (operands_once _ _ _ _ _ found.0 (register_absent r h) found.1 e).0)
