-- Names of registers.
use Rattle.std.proofs.Common.{if◌then◌else◌, ◌≡◌, ◌≢◌, ◌<◌, ◌==◌, ◌&&◌, ℕ, zero, suc, List, [], ◌∷◌, ◌++◌, Bool, true, not, refl, sym, ap, ◌∙◌, arith}
use Rattle.std.proofs.lemmas.Bool.Decides.{nat_tests}
use Rattle.std.specs.List.{list_all}
use Rattle.std.specs.Str.{bytes_eq}
use Rattle.rv_isa.specs.Text.{register, register_names}
use Rattle.asm_inst.specs.Bytes.{IsAbsent}

-- a test passes at each number below n
abbrev pub below : ℕ → (ℕ → Bool) → Bool
below zero p = true
below (suc n) p = p n && below n p

pub below_holds : (n : ℕ) (p : ℕ → Bool) → below n p ≡ true → (k : ℕ) → k < n → p k ≡ true
below_holds zero p h k l = absurd (omega arith)
below_holds (suc n) p h k l = below_step n p h k l (below_holds n p (second (p n) (below n p) h) k)
  where
    second : (a b : Bool) → (a && b) ≡ true → b ≡ true
    second a b h = grind (arith, nat_tests)

    first : (a b : Bool) → (a && b) ≡ true → a ≡ true
    first a b h = grind (arith, nat_tests)

    below_step : (n : ℕ) (p : ℕ → Bool) → below (suc n) p ≡ true → (k : ℕ) → k < suc n → (k < n → p k ≡ true) → p k ≡ true
    below_step n p h k l more = grind (arith, nat_tests, first (p n) (below n p) h)

abbrev pub has_no : ℕ → List ℕ → Bool
has_no b xs = list_all (λ x. not (x == b)) xs

-- the place of a name in a list of names
abbrev pub place : List ℕ → List (List ℕ) → ℕ
place name [] = 0
place name (first ∷ more) = if bytes_eq name first then 0 else suc (place name more)

pub same_from_test : (a b : ℕ) → (a == b) ≡ true → a ≡ b
same_from_test a b h = grind (arith, nat_tests)

abbrev finds : ℕ → Bool
finds r = place (register r) register_names == r

pub register_once : (r s : ℕ) → r < 32 → s < 32 → register r ≡ register s → r ≡ s
register_once r s hr hs e =
    sym (same_from_test (place (register r) register_names) r (below_holds 32 finds refl r hr)) ∙ ap (λ (x : List ℕ). place x register_names) e ∙ same_from_test (place (register s) register_names) s (below_holds 32 finds refl s hs)

pub absent_from_test : (b : ℕ) (xs : List ℕ) → has_no b xs ≡ true → IsAbsent b xs
absent_from_test b [] h = tt
absent_from_test b (x ∷ xs) h = (other_from_test x b _ h, absent_from_test b xs (rest_of_test x b _ h))
  where
    other_from_test : (x b : ℕ) (more : Bool) → (not (x == b) && more) ≡ true → x ≢ b
    other_from_test x b more h = grind (arith, nat_tests)

    rest_of_test : (x b : ℕ) (more : Bool) → (not (x == b) && more) ≡ true → more ≡ true
    rest_of_test x b more h = grind (arith, nat_tests)

pub register_absent : (r : ℕ) → r < 32 → IsAbsent 44 (register r)
register_absent r h = absent_from_test 44 (register r) (below_holds 32 (λ r. has_no 44 (register r)) refl r h)

-- no bracket opens in a register that is closed by one
pub register_closed : (r : ℕ) → r < 32 → IsAbsent 40 (register r ++ 41 ∷ [])
register_closed r h =
    absent_from_test 40 (register r ++ 41 ∷ []) (below_holds 32 (λ r. has_no 40 (register r ++ 41 ∷ [])) refl r h)
