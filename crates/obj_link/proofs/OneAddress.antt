-- A name stands for one symbol.
use Rattle.std.proofs.Common.{◌≡◌, ◌&&◌, ◌||◌, ℕ, suc, zero, Bool, true, false, cond, List, [], ◌∷◌, ◌++◌, Option, Some, None, Contains, find, map, filter, option_map, refl, ap, sym, subst, ◌∙◌, arith}
use Rattle.std.specs.Prelude.{unwrap_or}
use Rattle.std.specs.List.{AllByRecursion, IsDistinct, flat_map, list_any}
use Rattle.std.specs.Option.{option_or}
use Rattle.std.specs.Str.{bytes_eq}
use Rattle.std.proofs.lemmas.List.Folds.{find-append}
use Rattle.std.proofs.lemmas.Slice.Eq.{bytes_eq-Decides}
use Rattle.asm_read.specs.declared.object.Object.{Object}
use Rattle.asm_read.specs.declared.object.ObjectSymbol.{ObjectSymbol}
use Rattle.obj_link.specs.Layout.{address_in, addressed, sections_of, globals, globals_of}
use Rattle.obj_link.specs.Names.{HasDistinctNames, defines, duplicates, duplicates_of, is_global, with_before}
use Rattle.obj_link.specs.Words.{global_address, name_address}
use Rattle.obj_link.specs.declared.sections.SectionAddresses.{SectionAddresses}
use Rattle.obj_link.specs.declared.image.SymbolAddress.{SymbolAddress}
use Rattle.obj_link.proofs.Around.{split_before}
use Rattle.obj_link.proofs.Needs.{any-globals, left_empty}

same_name : (name : List ℕ) → bytes_eq name name ≡ true
same_name name = (bytes_eq-Decides name name).1 refl

find_none : {A : Type 0} (test : A → Bool) (xs : List A) → list_any test xs ≡ false → find test xs ≡ None
find_none test [] none = refl
find_none {A} test (x ∷ xs) none = by_test (test x) (find_none test xs) none
  where
    by_test : (b : Bool) → (list_any test xs ≡ false → find test xs ≡ None) → (b || list_any test xs) ≡ false → cond b (Some x) (find test xs) ≡ None
    by_test true later is = cc
    by_test false later is = later is

all_at : {A B : Type 0} (P : B → Type 0) (g : A → B) (xs : List A) (x : A) → AllByRecursion P (map g xs) → Contains xs x → P (g x)
all_at P g [] x all (k, inside, here) = absurd (omega arith)
all_at P g (y ∷ xs) x all (zero, inside, here) = subst (λ z. P (g z)) here all.0
all_at P g (y ∷ xs) x all (suc k, inside, here) = all_at P g xs x all.1 (k, omega arith, here)

-- the first symbol of a name that only one has
find_own : (symbols : List ObjectSymbol) (s : ObjectSymbol) → IsDistinct bytes_eq (map (λ t. t.name) symbols) → Contains symbols s
    → find (λ t. bytes_eq t.name s.name) symbols ≡ Some s
unfolding IsDistinct
find_own [] s distinct (k, inside, here) = absurd (omega arith)
find_own (t ∷ symbols) s distinct (zero, inside, here) =
    ap (λ u. cond (bytes_eq u.name s.name) (Some u) (find (λ v. bytes_eq v.name s.name) symbols)) here
    ∙ ap (λ b. cond b (Some s) (find (λ v. bytes_eq v.name s.name) symbols)) (same_name s.name)
find_own (t ∷ symbols) s distinct (suc k, inside, here) =
    let among : Contains symbols s = (k, omega arith, here) in
    ap (λ b. cond b (Some t) (find (λ v. bytes_eq v.name s.name) symbols)) (all_at (λ name. bytes_eq t.name name ≡ false) (λ u. u.name) symbols s distinct.0 among)
    ∙ find_own symbols s distinct.1 among

-- the addresses of the global ones among symbols
abbrev global_among : SectionAddresses → List ObjectSymbol → List SymbolAddress
global_among sections symbols = map (addressed sections) (filter (λ t. t.global) symbols)

-- likewise the first global symbol
find_global : (sections : SectionAddresses) (symbols : List ObjectSymbol) (s : ObjectSymbol) → IsDistinct bytes_eq (map (λ t. t.name) symbols) → Contains symbols s
    → s.global ≡ true → find (λ a. bytes_eq a.name s.name) (global_among sections symbols) ≡ Some (addressed sections s)
unfolding IsDistinct
find_global sections [] s distinct (k, inside, here) global = absurd (omega arith)
find_global sections (t ∷ symbols) s distinct (zero, inside, here) global =
    let rest : List ObjectSymbol = filter (λ u. u.global) symbols in
    let test : SymbolAddress → Bool = λ a. bytes_eq a.name s.name in
    ap (λ u. find test (map (addressed sections) (cond u.global (u ∷ rest) rest))) here
    ∙ ap (λ b. find test (map (addressed sections) (cond b (s ∷ rest) rest))) global
    ∙ ap (λ b. cond b (Some (addressed sections s)) (find test (map (addressed sections) rest))) (same_name s.name)
find_global sections (t ∷ symbols) s distinct (suc k, inside, here) global =
    let among : Contains symbols s = (k, omega arith, here) in
    by_test t.global (all_at (λ name. bytes_eq t.name name ≡ false) (λ u. u.name) symbols s distinct.0 among) (find_global sections symbols s distinct.1 among global)
  where
    by_test : (b : Bool) → bytes_eq t.name s.name ≡ false → find (λ a. bytes_eq a.name s.name) (global_among sections symbols) ≡ Some (addressed sections s)
        → find (λ a. bytes_eq a.name s.name) (map (addressed sections) (cond b (t ∷ filter (λ u. u.global) symbols) (filter (λ u. u.global) symbols))) ≡ Some (addressed sections s)
    by_test true other later = ap (λ c. cond c (Some (addressed sections t)) (find (λ a. bytes_eq a.name s.name) (global_among sections symbols))) other ∙ later
    by_test false other later = later

-- no element passes a test that none of a list passes
fails : {A B : Type 0} (f : A → B) (test : A → Bool) (xs : List A) (x : A) → map f (filter test xs) ≡ [] → Contains xs x → test x ≡ false
fails f test [] x none (k, inside, here) = absurd (omega arith)
fails {A} {B} f test (y ∷ xs) x none (zero, inside, here) = ap test (sym here) ∙ by_test (test y) none
  where
    by_test : (b : Bool) → map f (cond b (y ∷ filter test xs) (filter test xs)) ≡ [] → b ≡ false
    by_test true some = cc
    by_test false rest = refl
fails {A} {B} f test (y ∷ xs) x none (suc k, inside, here) = fails f test xs x (by_test (test y) none) (k, omega arith, here)
  where
    by_test : (b : Bool) → map f (cond b (y ∷ filter test xs) (filter test xs)) ≡ [] → map f (filter test xs) ≡ []
    by_test true some = cc
    by_test false rest = rest

-- no object before one defines a global name of its own
new_name : (objects before after : List Object) (object : Object) (s : ObjectSymbol) → objects ≡ before ++ object ∷ after → duplicates objects ≡ []
    → Contains object.symbols s → s.global ≡ true → is_global before s.name ≡ false
new_name objects before after object s is differ among global =
    let whole = sym (split_before (λ p. duplicates_of p.0 p.1) objects before object after is) ∙ differ in
    let here = (left_empty (duplicates_of before object) _ (left_empty _ _ whole).1).0 in
    let again = fails (λ t. t.name) (λ t. t.global && is_global before t.name) object.symbols s here among in
    sym (ap (λ b. b && is_global before s.name) global) ∙ again

-- an object's own symbol stands for its address there
pub own_stands : (objects before : List Object) (object : Object) (s : ObjectSymbol) → HasDistinctNames object → Contains object.symbols s
    → name_address objects before object s.name ≡ address_in (sections_of objects before object) s
own_stands objects before object s distinct among =
    ap (λ found. unwrap_or (option_map (address_in (sections_of objects before object)) found) (unwrap_or (global_address (globals objects) s.name) 0))
    (find_own object.symbols s distinct among)

-- a global symbol stands for its address wherever its name is not the object's own
pub global_stands : (objects before prefix back : List Object) (object other : Object) (s : ObjectSymbol) → objects ≡ prefix ++ other ∷ back
    → duplicates objects ≡ [] → HasDistinctNames other → Contains other.symbols s → s.global ≡ true → defines object s.name ≡ false
    → name_address objects before object s.name ≡ address_in (sections_of objects prefix other) s
global_stands objects before prefix back object other s is differ distinct among global free =
    let test : SymbolAddress → Bool = λ a. bytes_eq a.name s.name in
    let first : List SymbolAddress = flat_map (λ p. globals_of objects p.0 p.1) (with_before [] prefix) in
    let last : List SymbolAddress = flat_map (λ p. globals_of objects p.0 p.1) (with_before (prefix ++ other ∷ []) back) in
    let here : List SymbolAddress = globals_of objects prefix other in
    let found : Option SymbolAddress = find test (here ++ last) in
    let whole : globals objects ≡ first ++ (here ++ last) = split_before (λ p. globals_of objects p.0 p.1) objects prefix other back is in
    let none : find test first ≡ None = find_none test first (any-globals objects s.name [] prefix ∙ new_name objects prefix back other s is differ among global) in
    let some : find test here ≡ Some (addressed (sections_of objects prefix other) s) = find_global (sections_of objects prefix other) other.symbols s distinct among global in
    let is_first : find test (globals objects) ≡ Some (addressed (sections_of objects prefix other) s) =
    ap (find test) whole ∙ find-append test first (here ++ last) ∙ ap (λ o. option_or o found) none
    ∙ find-append test here last ∙ ap (λ o. option_or o (find test last)) some in
    ap (λ o. unwrap_or (option_map (address_in (sections_of objects before object)) o) (unwrap_or (global_address (globals objects) s.name) 0))
    (find_none (λ t. bytes_eq t.name s.name) object.symbols free)
    ∙ ap (λ o. unwrap_or (option_map (λ a. a.address) o) 0) is_first
