-- A module says in which order its items stand: no other numbered items make the same module.
use Rattle.std.proofs.Common.{◌≡◌, ℕ, ◌+◌, ◌≤◌, List, [], ◌∷◌, ◌++◌, drop, flat_map, get_or, length, refl, sym, ap, arith}
use Rattle.ir_entities.specs.declared.entity.Entity.{Entity}
use Rattle.ir_entities.specs.declared.entity.Entity.TheVariants as entity
use Rattle.ir_numbers.specs.Modules.{type_of, global_of, function_of, alias_of, module_of}
use Rattle.ir_numbers.specs.Numbered.{numbered_after, numbered_entities, numbered_entity, numbered_function}

no_item : {A : Type 0} (x : A) (xs : List A) → x ∷ xs ≡ [] → ⊥
no_item x xs same = grind (arith, ap length same)

-- an item of another kind gives none, and one of this kind gives one with its place
abbrev HasPlace : {A : Type 0} → (A → ℕ) → ℕ → List A → Type 0
HasPlace place k [] = Unit {0}
HasPlace place k (x ∷ xs) = place x ≡ k

-- the first item of a kind behind k others has a place from k on
from : {A : Type 0} (of : Entity → List A) (place : A → ℕ) → ((k : ℕ) (e : Entity) → HasPlace place k (of (numbered_entity k e))) →
    (k : ℕ) (es : List Entity) (x : A) (xs : List A) → x ∷ xs ≡ flat_map of (numbered_after k es) → k ≤ place x
from of place one k [] x xs is = absurd (no_item x xs is)
from {A} of place one k (e ∷ es) x xs is = by (of (numbered_entity k e)) (one k e) is (from of place one (k + 1) es x xs)
  where
    by : (items : List A) → HasPlace place k items → x ∷ xs ≡ items ++ flat_map of (numbered_after (k + 1) es) →
        (x ∷ xs ≡ flat_map of (numbered_after (k + 1) es) → k + 1 ≤ place x) → k ≤ place x
    by [] none same later = let above = later same in omega (arith, above)
    by (y ∷ ys) here same later = let first : place x ≡ place y = ap (λ items. place (get_or items 0 x)) same in omega (arith, here, first)

-- no item at a place is behind it
apart : {A : Type 0} (of : Entity → List A) (place : A → ℕ) → ((k : ℕ) (e : Entity) → HasPlace place k (of (numbered_entity k e))) →
    (k : ℕ) (es : List Entity) (x : A) (xs : List A) → place x ≡ k → x ∷ xs ≡ flat_map of (numbered_after (k + 1) es) → ⊥
apart of place one k es x xs here is = let later = from of place one (k + 1) es x xs is in omega (arith, here, later)

type_place : (k : ℕ) (e : Entity) → HasPlace (λ t. t.place) k (type_of (numbered_entity k e))
type_place k (entity.«Type» t) = refl
type_place k (entity.Global g) = tt
type_place k (entity.Function f) = tt
type_place k (entity.Alias a) = tt

global_place : (k : ℕ) (e : Entity) → HasPlace (λ g. g.place) k (global_of (numbered_entity k e))
global_place k (entity.«Type» t) = tt
global_place k (entity.Global g) = refl
global_place k (entity.Function f) = tt
global_place k (entity.Alias a) = tt

function_place : (k : ℕ) (e : Entity) → HasPlace (λ f. f.place) k (function_of (numbered_entity k e))
function_place k (entity.«Type» t) = tt
function_place k (entity.Global g) = tt
function_place k (entity.Function f) = refl
function_place k (entity.Alias a) = tt

alias_place : (k : ℕ) (e : Entity) → HasPlace (λ a. a.place) k (alias_of (numbered_entity k e))
alias_place k (entity.«Type» t) = tt
alias_place k (entity.Global g) = tt
alias_place k (entity.Function f) = tt
alias_place k (entity.Alias a) = refl

same_items : (k : ℕ) (es others : List Entity) →
    flat_map type_of (numbered_after k es) ≡ flat_map type_of (numbered_after k others) →
    flat_map global_of (numbered_after k es) ≡ flat_map global_of (numbered_after k others) →
    flat_map function_of (numbered_after k es) ≡ flat_map function_of (numbered_after k others) →
    flat_map alias_of (numbered_after k es) ≡ flat_map alias_of (numbered_after k others) →
    numbered_after k es ≡ numbered_after k others
same_items k [] [] ts gs ff aa = refl
same_items k [] (entity.«Type» t ∷ others) ts gs ff aa = absurd (no_item _ _ (sym ts))
same_items k [] (entity.Global g ∷ others) ts gs ff aa = absurd (no_item _ _ (sym gs))
same_items k [] (entity.Function f ∷ others) ts gs ff aa = absurd (no_item _ _ (sym ff))
same_items k [] (entity.Alias a ∷ others) ts gs ff aa = absurd (no_item _ _ (sym aa))
same_items k (entity.«Type» t ∷ es) [] ts gs ff aa = absurd (no_item _ _ ts)
same_items k (entity.Global g ∷ es) [] ts gs ff aa = absurd (no_item _ _ gs)
same_items k (entity.Function f ∷ es) [] ts gs ff aa = absurd (no_item _ _ ff)
same_items k (entity.Alias a ∷ es) [] ts gs ff aa = absurd (no_item _ _ aa)
same_items k (entity.«Type» t ∷ es) (entity.«Type» u ∷ others) ts gs ff aa =
    let first = ap (λ items. get_or items 0 (record t { place = k })) ts in
    let rest = same_items (k + 1) es others (ap (drop 1) ts) gs ff aa in
    λ i. entity.«Type» (first i) ∷ rest i
same_items k (entity.«Type» t ∷ es) (entity.Global h ∷ others) ts gs ff aa = absurd (apart type_of (λ x. x.place) type_place k others _ _ refl ts)
same_items k (entity.«Type» t ∷ es) (entity.Function d ∷ others) ts gs ff aa = absurd (apart type_of (λ x. x.place) type_place k others _ _ refl ts)
same_items k (entity.«Type» t ∷ es) (entity.Alias b ∷ others) ts gs ff aa = absurd (apart type_of (λ x. x.place) type_place k others _ _ refl ts)
same_items k (entity.Global g ∷ es) (entity.«Type» u ∷ others) ts gs ff aa = absurd (apart global_of (λ x. x.place) global_place k others _ _ refl gs)
same_items k (entity.Global g ∷ es) (entity.Global h ∷ others) ts gs ff aa =
    let first = ap (λ items. get_or items 0 (record g { place = k })) gs in
    let rest = same_items (k + 1) es others ts (ap (drop 1) gs) ff aa in
    λ i. entity.Global (first i) ∷ rest i
same_items k (entity.Global g ∷ es) (entity.Function d ∷ others) ts gs ff aa = absurd (apart global_of (λ x. x.place) global_place k others _ _ refl gs)
same_items k (entity.Global g ∷ es) (entity.Alias b ∷ others) ts gs ff aa = absurd (apart global_of (λ x. x.place) global_place k others _ _ refl gs)
same_items k (entity.Function f ∷ es) (entity.«Type» u ∷ others) ts gs ff aa = absurd (apart function_of (λ x. x.place) function_place k others _ _ refl ff)
same_items k (entity.Function f ∷ es) (entity.Global h ∷ others) ts gs ff aa = absurd (apart function_of (λ x. x.place) function_place k others _ _ refl ff)
same_items k (entity.Function f ∷ es) (entity.Function d ∷ others) ts gs ff aa =
    let first = ap (λ items. get_or items 0 (numbered_function k f)) ff in
    let rest = same_items (k + 1) es others ts gs (ap (drop 1) ff) aa in
    λ i. entity.Function (first i) ∷ rest i
same_items k (entity.Function f ∷ es) (entity.Alias b ∷ others) ts gs ff aa = absurd (apart function_of (λ x. x.place) function_place k others _ _ refl ff)
same_items k (entity.Alias a ∷ es) (entity.«Type» u ∷ others) ts gs ff aa = absurd (apart alias_of (λ x. x.place) alias_place k others _ _ refl aa)
same_items k (entity.Alias a ∷ es) (entity.Global h ∷ others) ts gs ff aa = absurd (apart alias_of (λ x. x.place) alias_place k others _ _ refl aa)
same_items k (entity.Alias a ∷ es) (entity.Function d ∷ others) ts gs ff aa = absurd (apart alias_of (λ x. x.place) alias_place k others _ _ refl aa)
same_items k (entity.Alias a ∷ es) (entity.Alias b ∷ others) ts gs ff aa =
    let first = ap (λ items. get_or items 0 (record a { place = k })) aa in
    let rest = same_items (k + 1) es others ts gs ff (ap (drop 1) aa) in
    λ i. entity.Alias (first i) ∷ rest i

pub are_one : (es others : List Entity) → module_of (numbered_entities es) ≡ module_of (numbered_entities others) → numbered_entities es ≡ numbered_entities others
are_one es others is = same_items 0 es others (ap (λ m. m.types) is) (ap (λ m. m.globals) is) (ap (λ m. m.functions) is) (ap (λ m. m.aliases) is)
