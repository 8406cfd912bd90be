-- Where no need is undefined, each stands for an address.
use Rattle.std.proofs.Common.{◌≡◌, ◌&&◌, ◌||◌, ℕ, Bool, true, false, cond, not, List, [], ◌∷◌, ◌++◌, Option, Some, None, is_some, find, map, filter, option_map, refl, ap, ◌∙◌}
use Rattle.std.specs.List.{flat_map, list_any, list_all}
use Rattle.std.specs.Str.{bytes_eq}
use Rattle.std.proofs.lemmas.List.Folds.{list_any-append}
use Rattle.asm_read.specs.declared.object.Object.{Object}
use Rattle.asm_read.specs.declared.object.ObjectSymbol.{ObjectSymbol}
use Rattle.obj_link.specs.Names.{with_before, defines, defines_global, is_global, undefined_of, undefined}
use Rattle.obj_link.specs.Layout.{sections_of, address_in, addressed, globals_of, globals}
use Rattle.obj_link.specs.declared.sections.SectionAddresses.{SectionAddresses}
use Rattle.obj_link.specs.declared.image.SymbolAddress.{SymbolAddress}
use Rattle.obj_link.specs.Words.{global_address, is_named}

is_some-map : {A B : Type 0} (f : A → B) (found : Option A) → is_some (option_map f found) ≡ is_some found
is_some-map f (Some x) = refl
is_some-map f None = refl

pub is_some-find : {A : Type 0} (test : A → Bool) (xs : List A) → is_some (find test xs) ≡ list_any test xs
is_some-find test [] = refl
is_some-find {A} test (x ∷ xs) = by_test (test x) (is_some-find test xs)
  where
    by_test : (b : Bool) → is_some (find test xs) ≡ list_any test xs → is_some (cond b (Some x) (find test xs)) ≡ (b || list_any test xs)
    by_test true later = refl
    by_test false later = later

any-addressed : (sections : SectionAddresses) (name : List ℕ) (symbols : List ObjectSymbol)
    → list_any (λ s. bytes_eq s.name name) (map (addressed sections) (filter (λ s. s.global) symbols)) ≡ list_any (λ s. s.global && bytes_eq s.name name) symbols
any-addressed sections name [] = refl
any-addressed sections name (symbol ∷ symbols) = by_test symbol.global (any-addressed sections name symbols)
  where
    by_test : (b : Bool) → list_any (λ s. bytes_eq s.name name) (map (addressed sections) (filter (λ s. s.global) symbols)) ≡ list_any (λ s. s.global && bytes_eq s.name name) symbols
        → list_any (λ s. bytes_eq s.name name) (map (addressed sections) (cond b (symbol ∷ filter (λ s. s.global) symbols) (filter (λ s. s.global) symbols)))
        ≡ ((b && bytes_eq symbol.name name) || list_any (λ s. s.global && bytes_eq s.name name) symbols)
    by_test true later = ap (λ r. bytes_eq symbol.name name || r) later
    by_test false later = later

-- the global names of objects among all objects
pub any-globals : (all : List Object) (name : List ℕ) (before objects : List Object)
    → list_any (λ s. bytes_eq s.name name) (flat_map (λ p. globals_of all p.0 p.1) (with_before before objects)) ≡ is_global objects name
any-globals all name before [] = refl
any-globals all name before (object ∷ objects) =
    let later : List SymbolAddress = flat_map (λ p. globals_of all p.0 p.1) (with_before (before ++ object ∷ []) objects) in
    list_any-append (λ s. bytes_eq s.name name) (globals_of all before object) later
    ∙ ap (λ b. b || list_any (λ s. bytes_eq s.name name) later) (any-addressed (sections_of all before object) name object.symbols)
    ∙ ap (λ b. defines_global object name || b) (any-globals all name (before ++ object ∷ []) objects)

named-defined : (objects before : List Object) (object : Object) (name : List ℕ)
    → is_named objects before object name ≡ (defines object name || is_global objects name)
named-defined objects before object name =
    ap (λ b. b || is_some (global_address (globals objects) name))
    (is_some-map (address_in (sections_of objects before object)) (find (λ s. bytes_eq s.name name) object.symbols)
    ∙ is_some-find (λ s. bytes_eq s.name name) object.symbols)
    ∙ ap (λ b. defines object name || b)
    (is_some-map (λ s. s.address) (find (λ s. bytes_eq s.name name) (globals objects))
    ∙ is_some-find (λ s. bytes_eq s.name name) (globals objects) ∙ any-globals objects name [] objects)

-- where nothing fails a test, all pass one that is the same
none_left : {A : Type 0} (test same : A → Bool) (xs : List A) → ((x : A) → same x ≡ test x) → filter (λ x. not (test x)) xs ≡ [] → list_all same xs ≡ true
none_left test same [] is none = refl
none_left {A} test same (x ∷ xs) is none = by_test (test x) (is x) (none_left test same xs is) none
  where
    by_test : (b : Bool) → same x ≡ b → (filter (λ y. not (test y)) xs ≡ [] → list_all same xs ≡ true)
        → cond (not b) (x ∷ filter (λ y. not (test y)) xs) (filter (λ y. not (test y)) xs) ≡ []
        → (same x && list_all same xs) ≡ true
    by_test true passes later left = ap (λ b. b && list_all same xs) passes ∙ later left
    by_test false passes later left = cc

pub left_empty : {A : Type 0} (xs ys : List A) → xs ++ ys ≡ [] → (xs ≡ []) × (ys ≡ [])
left_empty [] ys is = (refl, is)
left_empty (x ∷ xs) ys is = cc

needs_named : (objects before rest : List Object) → flat_map (undefined_of objects) rest ≡ []
    → list_all (λ p. list_all (is_named objects p.0 p.1) p.1.needs) (with_before before rest) ≡ true
needs_named objects before [] none = refl
needs_named objects before (object ∷ rest) none =
    let parts = left_empty (undefined_of objects object) (flat_map (undefined_of objects) rest) none in
    let here : list_all (is_named objects before object) object.needs ≡ true =
    none_left (λ name. defines object name || is_global objects name) (is_named objects before object) object.needs (named-defined objects before object) parts.0
    in
    ap (λ b. b && list_all (λ p. list_all (is_named objects p.0 p.1) p.1.needs) (with_before (before ++ object ∷ []) rest)) here
    ∙ needs_named objects (before ++ object ∷ []) rest parts.1

pub all_needs_named : (objects : List Object) → undefined objects ≡ []
    → list_all (λ p. list_all (is_named objects p.0 p.1) p.1.needs) (with_before [] objects) ≡ true
all_needs_named objects none = needs_named objects [] objects none
