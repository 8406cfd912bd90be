use Rattle.asm_line.proofs.StatementLemmas.{both_decided}
use Rattle.asm_line.proofs.line.is_to_label.Goals as goal

pub returns : goal.returns
returns c = both_decided _ _ _ _ c.goes_to_label.ensures c.is_label.ensures
