use Rattle.std.proofs.Common.{sym, ◌∙◌}
use Rattle.std.proofs.lemmas.Bool.{false≢true}
use Rattle.asm_line.proofs.StatementLemmas.{none_to_label}
use Rattle.asm_line.proofs.line.read_to_label.Goals as goal

pub returns-else-is_to_label : goal.returns-else-is_to_label
returns-else-is_to_label c = λ x h.
    none_to_label c.args.line.now c.in-Some.inst x.0 c.in-Some.last.now x.1 c.in-Some.ensures.0 c.in-Some.ensures.1
    (λ both. false≢true (sym c.if-is_to_label.false ∙ c.is_to_label.ensures.1 both)) h
