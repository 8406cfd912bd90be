use Rattle.std.proofs.Common.{subst}
use Rattle.asm_inst.specs.Targets.{HasRegisters}
use Rattle.asm_inst.proofs.target.open_li.Goals as goal

pub returns-in-None : goal.returns-in-None
returns-in-None c = λ i last h.
    let registers = subst (λ s. HasRegisters s i) h.1 h.0.registers in
    c.in-None.ensures i.rd last registers.0 h.3
