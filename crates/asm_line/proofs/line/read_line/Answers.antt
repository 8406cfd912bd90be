use Rattle.std.proofs.Common.{sym, ◌∙◌}
use Rattle.asm_inst.proofs.BytesLemmas.{differ}
use Rattle.asm_line.proofs.StatementLemmas.{none_said}
use Rattle.asm_line.proofs.line.read_line.Goals as goal

pub returns : goal.returns
returns c =
    none_said c.args.line.now
    (λ e. differ _ _ c.if-eq.ensures (e ∙ sym c.as_slice.ensures)) (λ e. differ _ _ c.if-eq-2.ensures (e ∙ sym c.as_slice-2.ensures)) c.in_default.ensures
    (λ e. differ _ _ c.if-eq-3.ensures (e ∙ sym c.as_slice-3.ensures)) (rw c.in_default-2.is at c.in_ok-inst.ensures) (rw c.in_default-3.is at c.in_ok-label.ensures)
    (rw c.in_default-4.is at c.in_ok-name.ensures) (rw c.in_default-5.is at c.in_ok-name-2.ensures)
