use Rattle.asm_inst.proofs.OpenLemmas.{line_found}
use Rattle.asm_inst.proofs.target.read_open.Goals as goal

pub returns-in-Some-cut_at : goal.returns-in-Some-cut_at
returns-in-Some-cut_at c =
    line_found _ _ _ _ _ c.in-Some.ensures c.in-Some-cut_at.ensures.0 c.in-Some-cut_at.ensures.1 c.open_with.ensures
