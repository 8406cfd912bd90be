use Rattle.std.proofs.Common.{◌≡◌, ◌∙◌, List, ℕ, subst}
use Rattle.asm_read.specs.Assembly.{Assembles, IsRefusal}
use Rattle.asm_read.specs.declared.refusal.AsmRefusal.TheVariants.{Line as RefusedLine}
use Rattle.cg_built.proofs.UnbuiltLemmas.{is_program}
use Rattle.cg_part.specs.Text.{part_text}
use Rattle.cg_part.proofs.AssemblingLemmas.{part_not_refused}
use Rattle.cg_part.proofs.program.object_of.Goals as goal

pub returns-in-Ok : goal.returns-in-Ok
returns-in-Ok c =
    let is : c.deref.result.now ≡ part_text c.args.m.now = c.deref.ensures.value ∙ c.in_ok-text.ensures.text in
    subst (λ (t : List ℕ). Assembles t c.in-Ok.object) is c.in-Ok.ensures.object

pub unreachable-requires : goal.unreachable-requires
unreachable-requires c =
    let is : c.deref.result.now ≡ part_text c.args.m.now = c.deref.ensures.value ∙ c.in_ok-text.ensures.text in
    part_not_refused c.args.m.now c.in-Err-Line.field-0-0 (is_program c.args.m.now c.requires)
    (subst (λ (t : List ℕ). IsRefusal t (RefusedLine c.in-Err-Line.field-0-0)) is (rw c.in-Err-Line.field-0-is at c.in-Err-Line.ensures.line))
