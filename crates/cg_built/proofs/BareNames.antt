-- The names of definitions stand without quotes.
use Rattle.std.proofs.Common.{◌≡◌, ◌++◌, ◌∷◌, [], ℕ, List, true, false, cond, not, ◌&&◌, refl, ap, sym}
use Rattle.std.specs.List.{flat_map, list_all}
use Rattle.std.proofs.lemmas.Bool.{and_from, and_parts, not-true}
use Rattle.ir_naming.specs.Reserved.{is_reserved}
use Rattle.rv_isa.specs.Symbol.{escaped, is_bare, is_digit, is_symbol_byte, spelled}
use Rattle.cg_built.specs.Built.{is_built_name}

pub built_name : (name : List ℕ) → is_bare name ≡ true → is_reserved name ≡ false → is_built_name name ≡ true
built_name name bare free = and_from (is_bare name) (not (is_reserved name)) bare (ap not free)

pub name_is_bare : (name : List ℕ) → is_built_name name ≡ true → is_bare name ≡ true
name_is_bare name built = (and_parts (is_bare name) (not (is_reserved name)) built).0

pub name_not_reserved : (name : List ℕ) → is_built_name name ≡ true → is_reserved name ≡ false
name_not_reserved name built = not-true (is_reserved name) (and_parts (is_bare name) (not (is_reserved name)) built).1

-- a bare name stands as it is
pub name_spelled : (name : List ℕ) → is_bare name ≡ true → name ≡ spelled name
name_spelled name bare = ap (λ b. cond b name (34 ∷ (flat_map escaped name ++ 34 ∷ []))) (sym bare)

pub bare_first : (b : ℕ) (bytes : List ℕ) → is_bare (b ∷ bytes) ≡ true → (is_symbol_byte b ≡ true) × (is_digit b ≡ false)
bare_first b bytes bare =
    let first = and_parts (is_symbol_byte b) (not (is_digit b)) (and_parts (is_symbol_byte b && not (is_digit b)) (list_all is_symbol_byte bytes) bare).0 in
    (first.0, not-true (is_digit b) first.1)

-- all bytes of a bare name may stand in a symbol
pub bare_bytes : (name : List ℕ) → is_bare name ≡ true → list_all is_symbol_byte name ≡ true
bare_bytes [] bare = refl
bare_bytes (b ∷ bytes) bare =
    and_from (is_symbol_byte b) (list_all is_symbol_byte bytes) (bare_first b bytes bare).0
    (and_parts (is_symbol_byte b && not (is_digit b)) (list_all is_symbol_byte bytes) bare).1
