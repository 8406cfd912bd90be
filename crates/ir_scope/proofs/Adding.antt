-- Maps to which values are added one after another.
use Rattle.std.proofs.Common.{◌≡◌, ◌∙◌, sym, ap, refl, subst, ℕ, ◌+◌, ◌<◌, Bool, true, false, Option, None, Some, option_map, List, [], ◌∷◌, ◌++◌, cond, get_or, length, take}
use Rattle.std.proofs.lemmas.Grind.{flat_map-append}
use Rattle.std.proofs.lemmas.List.{append-nil, take_more}
use Rattle.std.specs.List.{flat_map}
use Rattle.ir_ident.specs.NameMaps.{or_else, value_of}
use Rattle.ir_ident.specs.Names.{same_name}
use Rattle.ir_ident.specs.declared.name.Name.{Name}
use Rattle.ir_ident.specs.declared.names.NameMap.{NameMap}
use Rattle.ir_scope.specs.Locals.{Adds, Value, scalar_among}
use Rattle.ir_scope.specs.declared.scalar.Scalar.{Scalar}

pub or_else_assoc : {A : Type 0} (a b c : Option A) → or_else (or_else a b) c ≡ or_else a (or_else b c)
or_else_assoc None b c = refl
or_else_assoc (Some x) b c = refl

pub or_else_none : {A : Type 0} (a : Option A) → or_else a None ≡ a
or_else_none None = refl
or_else_none (Some x) = refl

pub scalar_among-append : (values more : List Value) (name : Name)
    → scalar_among (values ++ more) name ≡ or_else (scalar_among values name) (scalar_among more name)
scalar_among-append [] more name = refl
scalar_among-append (value ∷ values) more name = by_test (same_name name value.name) (scalar_among-append values more name)
  where
    by_test : (t : Bool) → scalar_among (values ++ more) name ≡ or_else (scalar_among values name) (scalar_among more name)
        → cond t (Some value.scalar) (scalar_among (values ++ more) name) ≡ or_else (cond t (Some value.scalar) (scalar_among values name)) (scalar_among more name)
    by_test true later = refl
    by_test false later = later

pub adds_nothing : (scalars : NameMap Scalar) → Adds scalars scalars []
adds_nothing scalars name = sym (or_else_none (value_of scalars name))

pub adds_after : (a b c : NameMap Scalar) (values more : List Value) → Adds a b values → Adds b c more → Adds a c (values ++ more)
adds_after a b c values more first second name =
    second name
    ∙ ap (λ old. or_else old (scalar_among more name)) (first name)
    ∙ or_else_assoc (value_of a name) (scalar_among values name) (scalar_among more name)
    ∙ ap (or_else (value_of a name)) (sym (scalar_among-append values more name))

-- the values of one more of these
pub adds_next : {A : Type 0} (values : A → List Value) (a b c : NameMap Scalar) (xs : List A) (i : ℕ) (x : A) → i < length xs → x ≡ get_or xs i x
    → Adds a b (flat_map values (take i xs)) → Adds b c (values x) → Adds a c (flat_map values (take (i + 1) xs))
adds_next values a b c xs i x inside is before last =
    let whole : take (i + 1) xs ≡ take i xs ++ x ∷ [] = take_more xs i x inside ∙ ap (λ y. take i xs ++ y ∷ []) (sym is) in
    let more : flat_map values (take (i + 1) xs) ≡ flat_map values (take i xs) ++ values x =
    ap (flat_map values) whole ∙ flat_map-append values (take i xs) (x ∷ []) ∙ ap (λ l. flat_map values (take i xs) ++ l) (append-nil (values x)) in
    subst (Adds a c) (sym more) (adds_after a b c (flat_map values (take i xs)) (values x) before last)

-- the same of a list that is told in another way
pub adds_same : {A : Type 0} (values : A → List Value) (a b : NameMap Scalar) (xs ys : List A) → xs ≡ ys → Adds a b (flat_map values xs) → Adds a b (flat_map values ys)
adds_same values a b xs ys same = subst (λ l. Adds a b (flat_map values l)) same

-- an item is added behind those before it
pub item_added : {A B : Type 0} (at : A → B) (old found : Option B) (before : Option A) (same : Bool) (x : A) → found ≡ or_else old (option_map at before)
    → or_else found (cond same (Some (at x)) None) ≡ or_else old (option_map at (or_else before (cond same (Some x) None)))
item_added {A = A} {B = B} at old found before same x is =
    ap (λ f. or_else f (cond same (Some (at x)) None)) is
    ∙ or_else_assoc old (option_map at before) (cond same (Some (at x)) None)
    ∙ ap (or_else old) (by before same)
  where
    by : (before : Option A) (same : Bool) → or_else (option_map at before) (cond same (Some (at x)) None) ≡ option_map at (or_else before (cond same (Some x) None))
    by None true = refl
    by None false = refl
    by (Some y) same = refl
