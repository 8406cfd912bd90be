use Rattle.std.proofs.Common.{◌∙◌, sym, below_more, arith}
use Rattle.asm_inst.proofs.BytesLemmas.{differ}
use Rattle.asm_inst.proofs.register.read_register.Goals as goal

pub loop-number-preserved : goal.loop-number-preserved
loop-number-preserved c =
    below_more _ _ c.loop-number.invariant (λ e. differ _ _ c.if-eq.ensures (c.as_bytes.ensures.value ∙ c.register_name.ensures ∙ sym e))

pub returns : goal.returns
returns c = λ r h. c.loop-number.invariant r (omega (arith, h.0)) h.1
