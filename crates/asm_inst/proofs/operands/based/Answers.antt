use Rattle.std.proofs.Common.{sym, ◌∙◌}
use Rattle.asm_inst.proofs.BytesLemmas.{last_cut_once, last_same}
use Rattle.asm_inst.proofs.RegisterLemmas.{register_closed}
use Rattle.asm_inst.proofs.operands.based.Goals as goal

pub returns-in_default-before : goal.returns-in_default-before
returns-in_default-before c = λ offset base h e.
    let cut = c.in-Some.ensures in
    c.in_default-before.ensures _ (last_cut_once _ _ _ _ _ (sym cut.0 ∙ e) cut.1 (register_closed base h)).1

pub returns-in_default-read_register : goal.returns-in_default-read_register
returns-in_default-read_register c = λ offset base h e.
    let cut = c.in-Some.ensures in
    let bracketed = (last_cut_once _ _ _ _ _ (sym cut.0 ∙ e) cut.1 (register_closed base h)).1 in
    c.in_default-read_register.ensures base (h, last_same _ _ _ _ (sym c.in-Some-before.ensures ∙ bracketed))
