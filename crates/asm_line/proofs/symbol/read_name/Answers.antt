use Rattle.std.proofs.Common.{sym, ap, ◌∙◌}
use Rattle.rv_isa.specs.Symbol.{is_bare}
use Rattle.asm_line.proofs.SymbolLemmas.{not_quoted}
use Rattle.asm_line.proofs.symbol.read_name.Goals as goal

pub returns-then-is_bare-2 : goal.returns-then-is_bare-2
returns-then-is_bare-2 c =
    let read = rw c.in-Some-2.is at c.in_ok-name.ensures in
    not_quoted c.args.bytes.now c.in-Some.inner.now c.in-Some-2.name.items (sym c.if-is_bare.ensures) c.in-Some.ensures read.0 read.1
    (ap is_bare (sym c.as_slice.ensures.value) ∙ sym c.if-is_bare-2.ensures)
