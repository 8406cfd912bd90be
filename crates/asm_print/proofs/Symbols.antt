-- The symbols of the text of items.
use Rattle.std.proofs.Common.{◌≡◌, ◌++◌, ◌∷◌, [], ℕ, List, Option, Some, None, All, filter, map, refl, ap, ap₂, ◌∙◌}
use Rattle.std.specs.List.{filter_map, flat_map, AllByRecursion as ByRecursion}
use Rattle.std.proofs.lemmas.Grind.{flat_map-append}
use Rattle.std.proofs.lemmas.List.{append-nil}
use Rattle.std.proofs.lemmas.Simd.{map-map}
use Rattle.std.proofs.lemmas.List.Elements.{recursion_from_All}
use Rattle.rv_isa.specs.Lines.{pieces_of}
use Rattle.rv_isa.specs.Statements.{statement_line}
use Rattle.rv_isa.specs.Symbol.{spelled}
use Rattle.rv_isa.specs.declared.statement.Statement.{Statement}
use Rattle.asm_line.specs.Statements.{IsStatement, defined, exported}
use Rattle.asm_read.proofs.PieceLemmas.{lines_of_statements}
use Rattle.asm_print.specs.Items.{IsItem, Item, items_text, statements_of, statements_text}
use Rattle.asm_print.specs.Symbols.{defined_in, exported_in, globals_of, needed_in, needs_of, symbols_of}
use Rattle.asm_print.proofs.Lines.{line_defines, line_exports, line_needs, symbol_if}
use Rattle.asm_print.proofs.Ordering.{items_allowed}
use Rattle.asm_print.proofs.Projections.{items_define, items_export}

-- what is read off each line is what its statement says
abbrev Tells : (List ℕ → List (List ℕ)) → (Statement → Option (List ℕ)) → Type 0
Tells read says = (statement : Statement) → IsStatement statement → read (statement_line statement) ≡ symbol_if (says statement)

joined : (name : Option (List ℕ)) (statement : Statement) (says : Statement → Option (List ℕ)) (statements : List Statement) → says statement ≡ name →
    symbol_if name ++ map spelled (filter_map says statements) ≡ map spelled (filter_map says (statement ∷ statements))
joined None statement says statements is = cc
joined (Some name) statement says statements is = cc

lines_tell : (read : List ℕ → List (List ℕ)) (says : Statement → Option (List ℕ)) → Tells read says → (statements : List Statement) →
    ByRecursion IsStatement statements → flat_map read (map statement_line statements) ≡ map spelled (filter_map says statements)
lines_tell read says tells [] formed = refl
lines_tell read says tells (statement ∷ statements) formed =
    ap₂ (λ (prefix back : List (List ℕ)). prefix ++ back) (tells statement formed.0) (lines_tell read says tells statements formed.1)
    ∙ joined (says statement) statement says statements refl

-- nothing is read off what stands after the last line feed
text_tells : (read : List ℕ → List (List ℕ)) (says : Statement → Option (List ℕ)) → Tells read says → read [] ≡ [] → (statements : List Statement) →
    All IsStatement statements → flat_map read (pieces_of (statements_text statements)) ≡ map spelled (filter_map says statements)
text_tells read says tells end statements formed =
    ap (flat_map read) (lines_of_statements statements formed)
    ∙ flat_map-append read (map statement_line statements) ([] ∷ [])
    ∙ ap₂ (λ (prefix back : List (List ℕ)). prefix ++ (back ++ [])) (lines_tell read says tells statements (recursion_from_All IsStatement statements formed)) end
    ∙ append-nil (map spelled (filter_map says statements))

pub items_symbols : (items : List Item) → All IsItem items → symbols_of (items_text items) ≡ map (λ item. spelled item.name) items
items_symbols items formed =
    text_tells defined_in defined line_defines refl (statements_of items) (items_allowed items formed)
    ∙ ap (map spelled) (items_define items) ∙ map-map spelled (λ item. item.name) items

pub items_globals : (items : List Item) → All IsItem items →
    globals_of (items_text items) ≡ map (λ item. spelled item.name) (filter (λ item. item.exported) items)
items_globals items formed =
    text_tells exported_in exported line_exports refl (statements_of items) (items_allowed items formed)
    ∙ ap (map spelled) (items_export items) ∙ map-map spelled (λ item. item.name) (filter (λ item. item.exported) items)

-- what a statement names that the text needs
abbrev no_name : Statement → Option (List ℕ)
no_name statement = None

none_said : (statements : List Statement) → filter_map no_name statements ≡ []
none_said [] = refl
none_said (statement ∷ statements) = none_said statements

pub items_needs : (items : List Item) → All IsItem items → needs_of (items_text items) ≡ []
items_needs items formed =
    text_tells needed_in no_name line_needs refl (statements_of items) (items_allowed items formed)
    ∙ ap (map spelled) (none_said (statements_of items))
