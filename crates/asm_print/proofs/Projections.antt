-- What the statements of items define and export.
use Rattle.std.proofs.Common.{◌≡◌, ◌||◌, ◌++◌, ◌∷◌, [], ℕ, List, Bool, true, false, cond, filter, map, refl, ap, ◌∙◌}
use Rattle.std.specs.Prelude.{bytes_eq}
use Rattle.std.specs.List.{filter_map, list_any}
use Rattle.std.proofs.lemmas.List.Elements.{filter_map-append}
use Rattle.rv_isa.specs.declared.inst.Inst.{Inst}
use Rattle.rv_isa.specs.declared.statement.Statement.{Statement}
use Rattle.rv_isa.specs.declared.statement.Statement.TheVariants.{Text, Global, Align, Define, Code}
use Rattle.asm_read.specs.Assembly.{exports}
use Rattle.asm_line.specs.Statements.{defined, exported}
use Rattle.asm_print.specs.Items.{Item, export_of, item_statements, statements_of}

code_defines : (code : List Inst) → filter_map defined (map (λ inst. Code inst) code) ≡ []
code_defines [] = refl
code_defines (inst ∷ code) = code_defines code

code_exports : (code : List Inst) → filter_map exported (map (λ inst. Code inst) code) ≡ []
code_exports [] = refl
code_exports (inst ∷ code) = code_exports code

item_defines : (shown : Bool) (name : List ℕ) (code : List Inst) →
    filter_map defined (Text ∷ (export_of shown name ++ Align ∷ Define name ∷ map (λ inst. Code inst) code)) ≡ name ∷ []
item_defines true name code = ap (λ more. name ∷ more) (code_defines code)
item_defines false name code = ap (λ more. name ∷ more) (code_defines code)

item_exports : (shown : Bool) (name : List ℕ) (code : List Inst) →
    filter_map exported (Text ∷ (export_of shown name ++ Align ∷ Define name ∷ map (λ inst. Code inst) code)) ≡ cond shown (name ∷ []) []
item_exports true name code = ap (λ more. name ∷ more) (code_exports code)
item_exports false name code = code_exports code

-- the names that are defined are those of the items
pub items_define : (items : List Item) → filter_map defined (statements_of items) ≡ map (λ item. item.name) items
items_define [] = refl
items_define (item ∷ items) =
    filter_map-append defined (item_statements item) (statements_of items)
    ∙ ap (λ prefix. prefix ++ filter_map defined (statements_of items)) (item_defines item.exported item.name item.code)
    ∙ ap (λ more. item.name ∷ more) (items_define items)

joined : (shown : Bool) (item : Item) (rest : List Item) →
    cond shown (item.name ∷ []) [] ++ map (λ item. item.name) rest ≡ map (λ item. item.name) (cond shown (item ∷ rest) rest)
joined true item rest = refl
joined false item rest = refl

-- and those that are exported are those of the items that are
pub items_export : (items : List Item) →
    filter_map exported (statements_of items) ≡ map (λ item. item.name) (filter (λ item. item.exported) items)
items_export [] = refl
items_export (item ∷ items) =
    filter_map-append exported (item_statements item) (statements_of items)
    ∙ ap (λ prefix. prefix ++ filter_map exported (statements_of items)) (item_exports item.exported item.name item.code)
    ∙ ap (λ more. cond item.exported (item.name ∷ []) [] ++ more) (items_export items)
    ∙ joined item.exported item (filter (λ item. item.exported) items)

-- the test for an exported name
pub any_exports : (name : List ℕ) (statements : List Statement) →
    list_any (exports name) statements ≡ list_any (bytes_eq name) (filter_map exported statements)
any_exports name [] = refl
any_exports name (Global other ∷ statements) = ap (λ b. bytes_eq name other || b) (any_exports name statements)
any_exports name (other ∷ statements) = any_exports name statements
