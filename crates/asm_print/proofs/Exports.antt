-- Of items whose names differ each is exported, or not, as it says.
use Rattle.std.proofs.Common.{◌≡◌, ◌||◌, ◌∷◌, [], ℕ, List, Bool, true, false, cond, filter, map, refl, ap, ◌∙◌}
use Rattle.std.specs.Prelude.{bytes_eq}
use Rattle.std.specs.List.{IsDistinct, list_any, AllByRecursion as ByRecursion}
use Rattle.std.proofs.lemmas.Cmp.{nat_list_eq_equiv}
use Rattle.std.proofs.lemmas.Slice.Eq.{bytes_eq-Decides}
use Rattle.asm_read.specs.Assembly.{exports}
use Rattle.asm_print.specs.Items.{Item, statements_of}
use Rattle.asm_print.proofs.Projections.{any_exports, items_export}

-- a name is exported by some of the items
abbrev is_exported : List ℕ → List Item → Bool
is_exported name items = list_any (bytes_eq name) (map (λ item. item.name) (filter (λ item. item.exported) items))

-- an item of another name does not matter
passed_by : (shown : Bool) (name : List ℕ) (item : Item) (rest : List Item) → bytes_eq name item.name ≡ false →
    list_any (bytes_eq name) (map (λ item. item.name) (cond shown (item ∷ rest) rest)) ≡ list_any (bytes_eq name) (map (λ item. item.name) rest)
passed_by true name item rest other = ap (λ b. b || list_any (bytes_eq name) (map (λ item. item.name) rest)) other
passed_by false name item rest other = refl

not_exported : (name : List ℕ) (items : List Item) → ByRecursion (λ other. bytes_eq name other ≡ false) (map (λ item. item.name) items) →
    is_exported name items ≡ false
not_exported name [] others = refl
not_exported name (item ∷ items) others =
    passed_by item.exported name item (filter (λ item. item.exported) items) others.0 ∙ not_exported name items others.1

first_exported : (shown : Bool) (item : Item) (rest : List Item) → list_any (bytes_eq item.name) (map (λ item. item.name) rest) ≡ false →
    list_any (bytes_eq item.name) (map (λ item. item.name) (cond shown (item ∷ rest) rest)) ≡ shown
first_exported true item rest none = ap (λ b. b || list_any (bytes_eq item.name) (map (λ item. item.name) rest)) ((bytes_eq-Decides item.name item.name).1 refl)
first_exported false item rest none = none

later_exported : (first : Item) (all items : List Item) → ByRecursion (λ other. bytes_eq first.name other ≡ false) (map (λ item. item.name) items) →
    ByRecursion (λ item. is_exported item.name all ≡ item.exported) items → ByRecursion (λ item. is_exported item.name (first ∷ all) ≡ item.exported) items
later_exported first all [] others shown = tt
later_exported first all (item ∷ items) others shown = (
  passed_by first.exported item.name first (filter (λ item. item.exported) all) (nat_list_eq_equiv.symm item.name first.name ∙ others.0) ∙ shown.0,
  later_exported first all items others.1 shown.1,
)

each_exported : (items : List Item) → IsDistinct bytes_eq (map (λ item. item.name) items) →
    ByRecursion (λ item. is_exported item.name items ≡ item.exported) items
unfolding IsDistinct
each_exported [] differ = tt
each_exported (item ∷ items) differ = (
  first_exported item.exported item (filter (λ item. item.exported) items) (not_exported item.name items differ.0),
  later_exported item items items differ.0 (each_exported items differ.1),
)

by_statements : (all items : List Item) → ByRecursion (λ item. is_exported item.name all ≡ item.exported) items →
    ByRecursion (λ item. list_any (exports item.name) (statements_of all) ≡ item.exported) items
by_statements all [] shown = tt
by_statements all (item ∷ items) shown =
    (any_exports item.name (statements_of all) ∙ ap (list_any (bytes_eq item.name)) (items_export all) ∙ shown.0, by_statements all items shown.1)

pub all_exported : (items : List Item) → IsDistinct bytes_eq (map (λ item. item.name) items) →
    ByRecursion (λ item. list_any (exports item.name) (statements_of items) ≡ item.exported) items
all_exported items differ = by_statements items items (each_exported items differ)
