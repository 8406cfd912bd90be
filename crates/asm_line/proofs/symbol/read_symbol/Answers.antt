use Rattle.std.proofs.Common.{refl, sym, subst, ◌∙◌}
use Rattle.asm_line.proofs.SymbolLemmas.{spelled_once}
use Rattle.rv_isa.specs.Symbol.{IsLabel}
use Rattle.asm_line.proofs.symbol.read_symbol.Goals as goal

pub returns-then-is_label : goal.returns-then-is_label
returns-then-is_label c = λ n h.
    let read = rw c.in-Some.is at c.in_ok-name.ensures in
    let same = spelled_once n c.in-Some.name.items h.0.0 read.0 (sym h.1 ∙ read.1) in
    h.0.1 (subst IsLabel (c.as_slice.ensures.value ∙ sym same) (c.if-is_label.ensures.0 refl))
