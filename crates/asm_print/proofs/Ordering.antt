-- The statements of items are in order: a section first, no name twice, and each exported name defined.
use Rattle.std.proofs.Common.{◌≡◌, ◌⊎◌, ◌++◌, ◌∷◌, [], ℕ, zero, suc, List, Bool, true, false, Contains, All, inl, inr, map, refl, ap, sym, subst, ◌∙◌, arith}
use Rattle.std.specs.Prelude.{bytes_eq}
use Rattle.std.specs.List.{IsDistinct, filter_map, AllByRecursion as ByRecursion}
use Rattle.std.proofs.lemmas.Bool.{both_ways}
use Rattle.std.proofs.lemmas.List.Elements.{All-append, All-cons, All-map, All-nil, Contains-append_cases, Contains-append_left, Contains-append_right, filter_map-append, recursion_from_All}
use Rattle.std.proofs.lemmas.Slice.Eq.{bytes_eq-Decides}
use Rattle.rv_isa.specs.Symbol.{IsSymbol}
use Rattle.rv_isa.specs.declared.inst.Inst.{Inst}
use Rattle.rv_isa.specs.declared.statement.Statement.{Statement}
use Rattle.rv_isa.specs.declared.statement.Statement.TheVariants.{Text, Global, Align, Define, Code}
use Rattle.asm_read.proofs.OrderLemmas.{AreDirect, direct_alone, direct_near, direct_placed}
use Rattle.asm_read.proofs.ReadLemmas.{contains_first, contains_more, first_or_more}
use Rattle.asm_read.specs.Assembly.{AreOrdered}
use Rattle.asm_line.specs.Statements.{IsStatement, defined}
use Rattle.asm_print.specs.Items.{AreItems, IsItem, Item, export_of, item_statements, statements_of}
use Rattle.asm_print.proofs.Projections.{items_define}

-- each is of the grammar

export_allowed : (shown : Bool) (name : List ℕ) → IsSymbol name → All IsStatement (export_of shown name)
export_allowed true name symbol = All-cons IsStatement (Global name) [] symbol (All-nil IsStatement)
export_allowed false name symbol = All-nil IsStatement

item_allowed : (item : Item) → IsItem item → All IsStatement (item_statements item)
item_allowed item formed =
    let code : List Statement = map (λ inst. Code inst) item.code in
    let rest : List Statement = Align ∷ Define item.name ∷ code in
    All-cons IsStatement Text (export_of item.exported item.name ++ rest) tt
    (All-append IsStatement (export_of item.exported item.name) rest (export_allowed item.exported item.name formed.symbol)
    (All-cons IsStatement Align (Define item.name ∷ code) tt
    (All-cons IsStatement (Define item.name) code formed.symbol (All-map IsStatement (λ inst. Code inst) item.code formed.read))))

allowed_in : (items : List Item) → ByRecursion IsItem items → All IsStatement (statements_of items)
allowed_in [] formed = All-nil IsStatement
allowed_in (item ∷ items) formed =
    All-append IsStatement (item_statements item) (statements_of items) (item_allowed item formed.0) (allowed_in items formed.1)

pub items_allowed : (items : List Item) → All IsItem items → All IsStatement (statements_of items)
items_allowed items formed = allowed_in items (recursion_from_All IsItem items formed)

-- no name is defined twice

more_defined : (statement : Statement) (statements : List Statement) (name : List ℕ) → Contains (filter_map defined statements) name →
    Contains (filter_map defined (statement ∷ statements)) name
more_defined (Define other) statements name among = contains_more other name (filter_map defined statements) among
more_defined other statements name among = among

defined_among : (statements : List Statement) (name : List ℕ) → Contains statements (Define name) → Contains (filter_map defined statements) name
defined_among [] name (k, inside, here) = absurd (omega arith)
defined_among (statement ∷ statements) name among = elim (first_or_more statement (Define name) statements among) [
  | inl here ↦ subst (λ (s : Statement). Contains (filter_map defined (s ∷ statements)) name) (sym here)
      (contains_first name name (filter_map defined statements) refl)
  | inr later ↦ more_defined statement statements name (defined_among statements name later)
]

in_middle : {A : Type 0} (P : A → Type 0) (prefix back : List A) (x : A) → ByRecursion P (prefix ++ x ∷ back) → P x
in_middle P [] back x all = all.0
in_middle P (y ∷ prefix) back x all = in_middle P prefix back x all.1

not_twice : (prefix back : List (List ℕ)) (name : List ℕ) → IsDistinct bytes_eq (prefix ++ name ∷ back) → Contains prefix name → ⊥
unfolding IsDistinct
not_twice [] back name differ (k, inside, here) = omega arith
not_twice (other ∷ prefix) back name differ (zero, inside, here) =
    both_ways (bytes_eq other name) (in_middle (λ n. bytes_eq other n ≡ false) prefix back name differ.0) ((bytes_eq-Decides other name).1 here)
not_twice (other ∷ prefix) back name differ (suc k, inside, here) = not_twice prefix back name differ.1 (k, omega arith, here)

defined_once : (items : List Item) → IsDistinct bytes_eq (map (λ item. item.name) items) → (before after : List Statement) (name : List ℕ) →
    statements_of items ≡ before ++ Define name ∷ after → Contains before (Define name) → ⊥
defined_once items differ before after name is among =
    let names : map (λ item. item.name) items ≡ filter_map defined before ++ name ∷ filter_map defined after =
    sym (items_define items) ∙ ap (filter_map defined) is ∙ filter_map-append defined before (Define name ∷ after) in
    not_twice (filter_map defined before) (filter_map defined after) name (subst (IsDistinct bytes_eq) names differ) (defined_among before name among)

-- each name that is exported is defined

code_exports_none : (code : List Inst) (name : List ℕ) → Contains (map (λ inst. Code inst) code) (Global name) → ⊥
code_exports_none [] name (k, inside, here) = omega arith
code_exports_none (inst ∷ code) name (zero, inside, here) = absurd (cc)
code_exports_none (inst ∷ code) name (suc k, inside, here) = code_exports_none code name (k, omega arith, here)

same_name : (name other : List ℕ) → Global name ≡ Global other → Define name ≡ Define other
same_name name other same = cc

item_known : (shown : Bool) (own : List ℕ) (code : List Inst) (name : List ℕ) →
    Contains (Text ∷ (export_of shown own ++ Align ∷ Define own ∷ map (λ inst. Code inst) code)) (Global name) →
    Contains (Text ∷ (export_of shown own ++ Align ∷ Define own ∷ map (λ inst. Code inst) code)) (Define name)
item_known true own code name (zero, inside, here) = absurd (cc)
item_known true own code name (suc zero, inside, here) = (3, omega arith, same_name own name here)
item_known true own code name (suc (suc zero), inside, here) = absurd (cc)
item_known true own code name (suc (suc (suc zero)), inside, here) = absurd (cc)
item_known true own code name (suc (suc (suc (suc k))), inside, here) = absurd (code_exports_none code name (k, omega arith, here))
item_known false own code name (zero, inside, here) = absurd (cc)
item_known false own code name (suc zero, inside, here) = absurd (cc)
item_known false own code name (suc (suc zero), inside, here) = absurd (cc)
item_known false own code name (suc (suc (suc k)), inside, here) = absurd (code_exports_none code name (k, omega arith, here))

exported_known : (items : List Item) (name : List ℕ) → Contains (statements_of items) (Global name) → Contains (statements_of items) (Define name)
exported_known [] name (k, inside, here) = absurd (omega arith)
exported_known (item ∷ items) name among = elim (Contains-append_cases (item_statements item) (statements_of items) (Global name) among) [
  | inl here ↦ Contains-append_left (item_statements item) (statements_of items) (Define name) (item_known item.exported item.name item.code name here)
  | inr later ↦ Contains-append_right (item_statements item) (statements_of items) (Define name) (exported_known items name later)
]

begins : (items : List Item) → (statements_of items ≡ []) ⊎ ((rest : List Statement) × (statements_of items ≡ Text ∷ rest))
begins [] = inl refl
begins (item ∷ items) = inr (_, refl)

-- none has labels

code_direct : (code : List Inst) (rest : List Statement) → AreDirect rest → AreDirect (map (λ inst. Code inst) code ++ rest)
code_direct [] rest h = h
code_direct (inst ∷ code) rest h = (refl, code_direct code rest h)

item_direct : (shown : Bool) (name : List ℕ) (code : List Inst) (rest : List Statement) → AreDirect rest →
    AreDirect ((Text ∷ (export_of shown name ++ Align ∷ Define name ∷ map (λ inst. Code inst) code)) ++ rest)
item_direct true name code rest h = (refl, (refl, (refl, (refl, code_direct code rest h))))
item_direct false name code rest h = (refl, (refl, (refl, code_direct code rest h)))

pub items_direct : (items : List Item) → AreDirect (statements_of items)
items_direct [] = tt
items_direct (item ∷ items) = item_direct item.exported item.name item.code (statements_of items) (items_direct items)

pub items_ordered : (items : List Item) → AreItems items → AreOrdered (statements_of items)
items_ordered items are = record {
  allowed = items_allowed items are.formed;
  begins = begins items;
  once = defined_once items are.differ;
  known = exported_known items;
  alone = direct_alone (statements_of items) (items_direct items);
  placed = direct_placed (statements_of items) (items_direct items);
  near = direct_near (statements_of items) (items_direct items);
}
