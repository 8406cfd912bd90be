use Rattle.std.proofs.Common.{sym, ◌∙◌}
use Rattle.asm_inst.proofs.OnceLemmas.{same_from_bytes}
use Rattle.asm_inst.proofs.OpenLemmas.{full_found, li_found}
use Rattle.asm_inst.proofs.target.open_with.Goals as goal

pub returns-then-eq : goal.returns-then-eq
returns-then-eq c = li_found _ _ _ (same_from_bytes _ _ (sym c.if-eq.ensures) ∙ c.as_slice.ensures) c.open_li.ensures

pub returns-in-Some : goal.returns-in-Some
returns-in-Some c = full_found _ _ c.in-Some.op _ c.in-Some.ensures c.open_in_full.ensures
