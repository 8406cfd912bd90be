-- Texts of statements, one after another.
use Rattle.std.proofs.Common.{◌≡◌, ◌++◌, ◌∷◌, [], ℕ, List, Bool, true, false, map, refl, ap, sym, ◌∙◌, append_assoc}
use Rattle.std.proofs.lemmas.Grind.{flat_map-append}
use Rattle.std.proofs.lemmas.List.{append-nil, map-append}
use Rattle.rv_isa.specs.Lines.{ended, text_of_lines}
use Rattle.rv_isa.specs.Statements.{statement_line}
use Rattle.rv_isa.specs.Text.{instruction_line}
use Rattle.rv_isa.specs.declared.inst.Inst.{Inst}
use Rattle.rv_isa.specs.declared.statement.Statement.{Statement}
use Rattle.rv_isa.specs.declared.statement.Statement.TheVariants.{Text, Global, Align, Define, Code}
use Rattle.asm_print.specs.Items.{Item, export_of, item_statements, items_text, statements_of, statements_text}

statements_text-append : (prefix back : List Statement) → statements_text (prefix ++ back) ≡ statements_text prefix ++ statements_text back
statements_text-append prefix back =
    ap text_of_lines (map-append statement_line prefix back) ∙ flat_map-append ended (map statement_line prefix) (map statement_line back)

pub items_text-append : (prefix back : List Item) → items_text (prefix ++ back) ≡ items_text prefix ++ items_text back
items_text-append prefix back =
    ap statements_text (flat_map-append item_statements prefix back) ∙ statements_text-append (statements_of prefix) (statements_of back)

-- the text of statements, and then that of others
then : (old before after : List ℕ) (prefix back : List Statement) → before ≡ old ++ statements_text prefix →
    after ≡ before ++ statements_text back → after ≡ old ++ statements_text (prefix ++ back)
then old before after prefix back first second =
    second
    ∙ ap (λ text. text ++ statements_text back) first
    ∙ append_assoc old (statements_text prefix) (statements_text back)
    ∙ ap (λ text. old ++ text) (sym (statements_text-append prefix back))

code_said : (code : List Inst) → map instruction_line code ≡ map statement_line (map (λ inst. Code inst) code)
code_said [] = refl
code_said (inst ∷ code) = ap (λ lines. instruction_line inst ∷ lines) (code_said code)

regrouped : (exported : Bool) (name : List ℕ) (code : List Statement) →
    (((Text ∷ export_of exported name) ++ Align ∷ []) ++ Define name ∷ []) ++ code
    ≡ (Text ∷ (export_of exported name ++ Align ∷ Define name ∷ code)) ++ []
regrouped true name code = ap (λ more. Text ∷ Global name ∷ Align ∷ Define name ∷ more) (sym (append-nil code))
regrouped false name code = ap (λ more. Text ∷ Align ∷ Define name ∷ more) (sym (append-nil code))

-- the parts of an item, written one after the other
pub item_written : (old a b c d new name : List ℕ) (exported : Bool) (code : List Inst) →
    a ≡ old ++ statements_text (Text ∷ []) → b ≡ a ++ statements_text (export_of exported name) → c ≡ b ++ statements_text (Align ∷ []) →
    d ≡ c ++ statements_text (Define name ∷ []) → new ≡ d ++ text_of_lines (map instruction_line code) →
    new ≡ old ++ items_text (record { name = name; exported = exported; code = code } ∷ [])
item_written old a b c d new name exported code first second third fourth fifth =
    let said : List Statement = map (λ inst. Code inst) code in
    let first_two : List Statement = Text ∷ export_of exported name in
    then old d new ((first_two ++ Align ∷ []) ++ Define name ∷ []) said
    (then old c d (first_two ++ Align ∷ []) (Define name ∷ [])
    (then old b c first_two (Align ∷ []) (then old a b (Text ∷ []) (export_of exported name) first second) third)
    fourth)
    (fifth ∙ ap (λ lines. d ++ text_of_lines lines) (code_said code))
    ∙ ap (λ all. old ++ statements_text all) (regrouped exported name said)
