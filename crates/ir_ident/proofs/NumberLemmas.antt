-- Digits of numbers.
use Rattle.std.proofs.Common.{◌≡◌, ◌∙◌, ◌+◌, ◌*◌, ◌/◌, ◌%◌, ℕ, ◌^◌, ◌<◌, ◌≤◌, List, [], ◌∷◌, ◌++◌, Bool, true, false, nat_eq, bytes_eq, refl, sym, ap, arith}
use Rattle.std.proofs.lemmas.Bool.Decides.{Decides-eqb}
use Rattle.std.proofs.lemmas.Slice.Eq.{bytes_eq-Decides}
use Rattle.std.specs.Int.Digits.{digits_of}
use Rattle.std.proofs.lemmas.Int.Digits.{digits_of_step, number_digits_of, same_from_digits_of}
use Rattle.ir_ident.specs.Numbers.{AreLarge, number_in}

pub last_digit : (n : ℕ) → 0 < n → digits_of 10 (n / 10) ++ (n % 10) ∷ [] ≡ digits_of 10 n
last_digit n some = sym (digits_of_step 10 n (omega arith) some)

digits_more : (n digit : ℕ) → digit < 10 → 2 ^ 64 ≤ 10 * n + digit → digits_of 10 n ++ digit ∷ [] ≡ digits_of 10 (10 * n + digit)
digits_more n digit small large =
    let m = 10 * n + digit in
    let up : m / 10 ≡ n = omega arith in
    let low : m % 10 ≡ digit = omega arith in
    sym (digits_of_step 10 m (omega arith) (omega arith) ∙ (λ i. digits_of 10 (up i) ++ low i ∷ []))

-- one digit more behind those of a number
pub one_behind : (n digit : ℕ) (before after : List ℕ) → digit < 10 → 2 ^ 64 ≤ 10 * n + digit → before ≡ digits_of 10 n → after ≡ before ++ digit ∷ [] →
    (number_in after ≡ 10 * n + digit) × AreLarge after
one_behind n digit before after small large are is =
    let m = 10 * n + digit in
    let all : after ≡ digits_of 10 m = is ∙ ap (λ ds. ds ++ digit ∷ []) are ∙ digits_more n digit small large in
    let value : number_in after ≡ m = ap number_in all ∙ number_digits_of 10 m (omega arith) in
    (value, (omega (arith, value, large), all ∙ ap (digits_of 10) (sym value)))

agree : (r s : Bool) → (r ≡ true → s ≡ true) → (s ≡ true → r ≡ true) → r ≡ s
agree true true there back = refl
agree true false there back = sym (there refl)
agree false true there back = back refl
agree false false there back = refl

-- numbers are told apart by their digits
pub same_digits : (a b : ℕ) → bytes_eq (digits_of 10 a) (digits_of 10 b) ≡ nat_eq a b
same_digits a b = agree _ _
    (λ same. (Decides-eqb a b).1 (same_from_digits_of 10 a b (omega arith) ((bytes_eq-Decides (digits_of 10 a) (digits_of 10 b)).0 same)))
    (λ same. (bytes_eq-Decides (digits_of 10 a) (digits_of 10 b)).1 (ap (digits_of 10) ((Decides-eqb a b).0 same)))
