-- Names and numbers, looked up where one was added.
use Rattle.std.proofs.Common.{◌≡◌, ◌∙◌, Result, Ok, Err, OnErr, ℕ, ◌^◌, ◌<◌, ◌≤◌, Bool, true, false, cond, Option, None, Some, IsSome, is_some, List, [], ◌∷◌, bytes_eq, nat_eq, nat_lt, if◌then◌else◌, ◌&&◌, refl, sym, ap, arith}
use Rattle.std.proofs.lemmas.Bool.Decides.{Decides-eqb, nat_tests}
use Rattle.std.proofs.lemmas.Slice.Eq.{bytes_eq-Decides}
use Rattle.std.specs.HashMap.{HashMap, Updates, get}
use Rattle.std.specs.Int.Digits.{digits_of}
use Rattle.std.specs.Map.{lookup}
use Rattle.ir_ident.specs.declared.name_key.NameKey.{NameKey}
use Rattle.ir_ident.specs.NameMaps.{key_value, or_else, small_value}
use Rattle.ir_ident.proofs.NumberLemmas.{same_digits}

pub nat_eq_turned : (a b : ℕ) → nat_eq a b ≡ nat_eq b a
nat_eq_turned a b = grind (arith, nat_tests)

pub bytes_eq_turned : (a b : List ℕ) → bytes_eq a b ≡ bytes_eq b a
bytes_eq_turned [] [] = refl
bytes_eq_turned [] (y ∷ ys) = refl
bytes_eq_turned (x ∷ xs) [] = refl
bytes_eq_turned (x ∷ xs) (y ∷ ys) = λ i. nat_eq_turned x y i && bytes_eq_turned xs ys i

or_else-none : {A : Type 0} (o : Option A) → or_else o None ≡ o
or_else-none None = refl
or_else-none (Some a) = refl

-- what a key has after one is added that had nothing
added : {A : Type 0} (same : Bool) (old : Option A) (value : A) → (same ≡ true → old ≡ None) →
    cond same (Some value) old ≡ or_else old (if same then Some value else None)
added true old value none = ap (λ o. or_else o (Some value)) (sym (none refl))
added false old value none = sym (or_else-none old)

-- what it has after one is added that had a value
kept : {A : Type 0} (same : Bool) (old : Option A) (value a : A) → (same ≡ true → old ≡ Some a) →
    old ≡ or_else old (if same then Some value else None)
kept true old value a is = is refl ∙ ap (λ o. or_else o (Some value)) (sym (is refl))
kept false old value a is = sym (or_else-none old)

abbrev same_key : NameKey → NameKey → Bool
same_key a b = bytes_eq a.bytes.now b.bytes.now

module _ {V S : Type 0} where
  -- a value added at a name
  pub key_added : (old new : HashMap NameKey V S) (key : NameKey) (value : V) (bytes : List ℕ) →
      (get same_key old key ≡ None → Updates same_key old new key (Some value)) → (IsSome (get same_key old key) → new.entries ≡ old.entries) →
      key_value new bytes ≡ or_else (key_value old bytes) (if bytes_eq bytes key.bytes.now then Some value else None)
  key_added old new key value bytes fresh there = go (get same_key old key) refl
    where
      at : bytes_eq key.bytes.now bytes ≡ true → key_value old bytes ≡ get same_key old key
      at same = ap (key_value old) (sym ((bytes_eq-Decides key.bytes.now bytes).0 same))

      turned : or_else (key_value old bytes) (if bytes_eq key.bytes.now bytes then Some value else None) ≡ or_else (key_value old bytes) (if bytes_eq bytes key.bytes.now then Some value else None)
      turned = ap (λ same. or_else (key_value old bytes) (if same then Some value else None)) (bytes_eq_turned key.bytes.now bytes)

      go : (o : Option V) → get same_key old key ≡ o → key_value new bytes ≡ or_else (key_value old bytes) (if bytes_eq bytes key.bytes.now then Some value else None)
      go None is = (fresh is).0 (record { bytes = record { ref_ptr = key.bytes.ref_ptr; now = bytes } }) ∙ added (bytes_eq key.bytes.now bytes) (key_value old bytes) value (λ same. at same ∙ is) ∙ turned
      go (Some a) is = ap (λ es. lookup (λ k. bytes_eq bytes k.bytes.now) es) (there (ap is_some is)) ∙ kept (bytes_eq key.bytes.now bytes) (key_value old bytes) value a (λ same. at same ∙ is) ∙ turned

  -- a value added at a small number
  pub number_added : (old new : HashMap ℕ V S) (key : ℕ) (value : V) (n : ℕ) →
      (get nat_eq old key ≡ None → Updates nat_eq old new key (Some value)) → (IsSome (get nat_eq old key) → new.entries ≡ old.entries) →
      small_value new n ≡ or_else (small_value old n) (if nat_eq n key then Some value else None)
  number_added old new key value n fresh there = go (get nat_eq old key) refl
    where
      at : nat_eq key n ≡ true → small_value old n ≡ get nat_eq old key
      at same = ap (small_value old) (sym ((Decides-eqb key n).0 same))

      turned : or_else (small_value old n) (if nat_eq key n then Some value else None) ≡ or_else (small_value old n) (if nat_eq n key then Some value else None)
      turned = ap (λ same. or_else (small_value old n) (if same then Some value else None)) (nat_eq_turned key n)

      go : (o : Option V) → get nat_eq old key ≡ o → small_value new n ≡ or_else (small_value old n) (if nat_eq n key then Some value else None)
      go None is = (fresh is).0 n ∙ added (nat_eq key n) (small_value old n) value (λ same. at same ∙ is) ∙ turned
      go (Some a) is = ap (λ es. lookup (nat_eq n) es) (there (ap is_some is)) ∙ kept (nat_eq key n) (small_value old n) value a (λ same. at same ∙ is) ∙ turned

-- of a number, the small ones or the large ones change
module _ {V : Type 0} (n k : ℕ) (value : V) where
  pub small_added : (a b after : Option V) → k < 2 ^ 64 → after ≡ or_else a (if nat_eq n k then Some value else None) →
      (if nat_lt n (2 ^ 64) then after else b) ≡ or_else (if nat_lt n (2 ^ 64) then a else b) (if nat_eq n k then Some value else None)
  small_added a b after small is = go (nat_lt n (2 ^ 64)) refl
    where
      go : (t : Bool) → nat_lt n (2 ^ 64) ≡ t → (if t then after else b) ≡ or_else (if t then a else b) (if nat_eq n k then Some value else None)
      go true below = is
      go false above =
          let other : nat_eq n k ≡ false = grind (arith, nat_tests, small, above) in
          sym (or_else-none b) ∙ ap (λ same. or_else b (if same then Some value else None)) (sym other)

  pub large_added : (a b after : Option V) (digits : List ℕ) → 2 ^ 64 ≤ k → digits ≡ digits_of 10 k →
      after ≡ or_else b (if bytes_eq (digits_of 10 n) digits then Some value else None) →
      (if nat_lt n (2 ^ 64) then a else after) ≡ or_else (if nat_lt n (2 ^ 64) then a else b) (if nat_eq n k then Some value else None)
  large_added a b after digits large are is = go (nat_lt n (2 ^ 64)) refl
    where
      go : (t : Bool) → nat_lt n (2 ^ 64) ≡ t → (if t then a else after) ≡ or_else (if t then a else b) (if nat_eq n k then Some value else None)
      go true below =
          let other : nat_eq n k ≡ false = grind (arith, nat_tests, large, below) in
          sym (or_else-none a) ∙ ap (λ same. or_else a (if same then Some value else None)) (sym other)
      go false above =
          is ∙ ap (λ ds. or_else b (if bytes_eq (digits_of 10 n) ds then Some value else None)) are
          ∙ ap (λ same. or_else b (if same then Some value else None)) (same_digits n k)

pub on_err : {A E P : Type 0} (r : Result A E) → P → OnErr r P
on_err (Ok a) p = tt
on_err (Err e) p = p
