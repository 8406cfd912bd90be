-- What the statements of items assemble to.
use Rattle.std.proofs.Common.{◌≡◌, ◌+◌, ◌*◌, ◌++◌, ◌∷◌, [], ℕ, pos, List, Bool, true, false, map, length, refl, ap, ap₂, sym, ◌∙◌, arith}
use Rattle.std.specs.Prelude.{bytes_eq}
use Rattle.std.specs.List.{IsDistinct, flat_map, list_any, AllByRecursion as ByRecursion}
use Rattle.std.proofs.lemmas.Grind.{flat_map-append}
use Rattle.std.proofs.lemmas.List.{map-append}
use Rattle.rv_isa.specs.declared.inst.Inst.{Inst}
use Rattle.rv_isa.specs.declared.inst.Line.{Line}
use Rattle.rv_isa.specs.declared.inst.Line.TheVariants.{Plain}
use Rattle.rv_isa.specs.declared.statement.Statement.{Statement}
use Rattle.rv_isa.specs.declared.statement.Statement.TheVariants.{Text, Align, Define, Code}
use Rattle.asm_read.specs.Assembly.{IsObjectOf, exports, symbols_after}
use Rattle.asm_read.proofs.OrderLemmas.{direct_words}
use Rattle.asm_line.specs.Statements as statement
use Rattle.asm_read.specs.declared.object.ObjectSymbol.{ObjectSymbol}
use Rattle.asm_read.specs.declared.object.Section as section
use Rattle.asm_print.specs.Items.{Item, export_of, item_statements, items_code, object_of, statements_of, symbols_from}
use Rattle.asm_print.proofs.Exports.{all_exported}
use Rattle.asm_print.proofs.Ordering.{items_direct}

-- the code as it stands
abbrev words : List Statement → List Line
words statements = flat_map statement.code statements

code_words : (code : List Inst) → words (map (λ inst. Code inst) code) ≡ map (λ inst. Plain inst) code
code_words [] = refl
code_words (inst ∷ code) = ap (λ more. Plain inst ∷ more) (code_words code)

item_words : (shown : Bool) (name : List ℕ) (code : List Inst) →
    words (Text ∷ (export_of shown name ++ Align ∷ Define name ∷ map (λ inst. Code inst) code)) ≡ map (λ inst. Plain inst) code
item_words true name code = code_words code
item_words false name code = code_words code

items_words : (items : List Item) → words (statements_of items) ≡ map (λ inst. Plain inst) (items_code items)
items_words [] = refl
items_words (item ∷ items) =
    flat_map-append statement.code (item_statements item) (statements_of items)
    ∙ ap₂ (λ (prefix back : List Line). prefix ++ back) (item_words item.exported item.name item.code) (items_words items)
    ∙ sym (map-append (λ inst. Plain inst) item.code (items_code items))

-- code defines no symbols
code_symbols : (global : List ℕ → Bool) (before : ℕ) (code : List Inst) (rest : List Statement) →
    symbols_after global before (map (λ inst. Code inst) code ++ rest) ≡ symbols_after global (before + length code) rest
code_symbols global before [] rest = ap (λ n. symbols_after global n rest) (omega arith)
code_symbols global before (inst ∷ code) rest =
    let count : (before + 1) + length code ≡ before + length (inst ∷ code) = omega arith in
    code_symbols global (before + 1) code rest ∙ ap (λ n. symbols_after global n rest) count

abbrev symbol_of : List ℕ → Bool → ℕ → ObjectSymbol
symbol_of name global before = record { name = name; global = global; section = section.TheVariants.Text; offset = pos (4 * before) }

-- a definition before code, after so many instructions, to which the lines before it add none
definition_symbols : (global : List ℕ → Bool) (before n : ℕ) (name : List ℕ) (code : List Inst) (rest : List Statement) → n ≡ before →
    symbol_of name (global name) n ∷ symbols_after global (n + 0) (map (λ inst. Code inst) code ++ rest)
    ≡ symbol_of name (global name) before ∷ symbols_after global (before + length code) rest
definition_symbols global before n name code rest same =
    let count : n + 0 ≡ before = omega (arith, same) in
    ap₂ (λ (m k : ℕ). symbol_of name (global name) m ∷ symbols_after global k (map (λ inst. Code inst) code ++ rest)) same count
    ∙ ap (λ more. symbol_of name (global name) before ∷ more) (code_symbols global before code rest)

item_symbols : (global : List ℕ → Bool) (before : ℕ) (shown : Bool) (name : List ℕ) (code : List Inst) (rest : List Statement) →
    symbols_after global before ((Text ∷ (export_of shown name ++ Align ∷ Define name ∷ map (λ inst. Code inst) code)) ++ rest)
    ≡ symbol_of name (global name) before ∷ symbols_after global (before + length code) rest
item_symbols global before true name code rest = definition_symbols global before (((before + 0) + 0) + 0) name code rest (omega arith)
item_symbols global before false name code rest = definition_symbols global before ((before + 0) + 0) name code rest (omega arith)

items_symbols : (global : List ℕ → Bool) (before : ℕ) (items : List Item) → ByRecursion (λ item. global item.name ≡ item.exported) items →
    symbols_after global before (statements_of items) ≡ symbols_from before items
items_symbols global before [] shown = refl
items_symbols global before (item ∷ items) shown =
    let next : ℕ = before + length item.code in
    item_symbols global before item.exported item.name item.code (statements_of items)
    ∙ ap (λ b. symbol_of item.name b before ∷ symbols_after global next (statements_of items)) shown.0
    ∙ ap (λ more. symbol_of item.name item.exported before ∷ more) (items_symbols global next items shown.1)

pub items_object : (items : List Item) → IsDistinct bytes_eq (map (λ item. item.name) items) → IsObjectOf (statements_of items) (object_of items)
items_object items differ = record {
  has_words = sym (direct_words (statements_of items) (items_direct items) ∙ items_words items);
  has_symbols = sym (items_symbols (λ name. list_any (exports name) (statements_of items)) 0 items (all_exported items differ));
  has_no_needs = refl;
}
