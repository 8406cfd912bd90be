use Rattle.std.proofs.Common.{◌∙◌, ap, sym, below_more, arith}
use Rattle.rv_isa.specs.Table.{mnemonic}
use Rattle.asm_inst.proofs.BytesLemmas.{differ}
use Rattle.asm_inst.proofs.MnemonicLemmas.{number, number_is_below, numbered}
use Rattle.asm_inst.proofs.mnemonic.op_named.Goals as goal

pub loop-place-preserved : goal.loop-place-preserved
loop-place-preserved c =
    below_more _ _ c.loop-place.invariant
    (λ e. differ _ _ c.if-eq.ensures (c.as_bytes.ensures.value ∙ c.mnemonic.ensures ∙ ap mnemonic c.op_numbered-op.ensures ∙ sym e))

pub returns : goal.returns
returns c = λ op e. c.loop-place.invariant (number op) (omega (arith, number_is_below op)) (e ∙ ap mnemonic (sym (numbered op).1))
