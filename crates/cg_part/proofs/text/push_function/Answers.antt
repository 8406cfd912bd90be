use Rattle.std.proofs.Common.{◌++◌, ◌∷◌, [], ℕ, List, true, ap₂, ◌∙◌}
use Rattle.asm_print.specs.Items.{items_text}
use Rattle.rv_isa.specs.declared.inst.Inst.{Inst}
use Rattle.cg_part.proofs.text.push_function.Goals as goal

pub returns : goal.returns
returns c =
    c.in_ok-push_item.ensures
    ∙ ap₂ (λ (name : List ℕ) (code : List Inst). c.args.out.now.items ++ items_text (record { name = name; exported = true; code = code } ∷ []))
    c.bytes_of.ensures (c.deref.ensures.value ∙ c.in_ok-code.ensures.code)
