-- Which objects define which names.
use Rattle.std.specs.Prelude.{◌&&◌, ◌||◌, ℕ, Bool, not, List, [], ◌∷◌, ◌++◌, map, filter}
use Rattle.std.specs.List.{IsDistinct, flat_map, list_any}
use Rattle.std.specs.Str.{bytes_eq}
use Rattle.asm_read.specs.declared.object.Object.{Object}

-- each element with those before it; the elements of `before` stand before all of them
abbrev pub with_before : {X : Type 0} → List X → List X → List (List X × X)
with_before before [] = []
with_before before (x ∷ xs) = (before, x) ∷ with_before (before ++ x ∷ []) xs

abbrev pub defines : Object → List ℕ → Bool
defines object name = list_any (λ s. bytes_eq s.name name) object.symbols

abbrev pub defines_global : Object → List ℕ → Bool
defines_global object name = list_any (λ s. s.global && bytes_eq s.name name) object.symbols

abbrev pub is_global : List Object → List ℕ → Bool
is_global objects name = list_any (λ object. defines_global object name) objects

-- the global names of an object that one of the objects before it also defines as a global one
abbrev pub duplicates_of : List Object → Object → List (List ℕ)
duplicates_of before object =
    map (λ s. s.name) (filter (λ s. s.global && is_global before s.name) object.symbols)

abbrev pub duplicates : List Object → List (List ℕ)
duplicates objects = flat_map (λ p. duplicates_of p.0 p.1) (with_before [] objects)

-- the needs of an object that neither it nor a global symbol defines
abbrev pub undefined_of : List Object → Object → List (List ℕ)
undefined_of objects object = filter (λ name. not (defines object name || is_global objects name)) object.needs

abbrev pub undefined : List Object → List (List ℕ)
undefined objects = flat_map (undefined_of objects) objects

-- the symbols of an object have different names
abbrev pub HasDistinctNames : Object → Type 0
HasDistinctNames object = IsDistinct bytes_eq (map (λ s. s.name) object.symbols)
