-- Numbers of digits up to a limit, a digit at a time.
use Rattle.std.proofs.Common.{◌≡◌, ℕ, ◌+◌, ◌-◌, ◌*◌, ◌<◌, ◌≤◌, ◌⊎◌, inl, inr, Bool, true, false, true≢false, refl, List, ap, arith, drop, get_or, length, min, sym, ◌∙◌}
use Rattle.std.proofs.Math.Nat.{min-eq_left, min-eq_right}
use Rattle.std.proofs.lemmas.Bool.{cases_lt}
use Rattle.std.proofs.lemmas.Bool.Decides.{nat_tests}
use Rattle.std.proofs.lemmas.List.Folds.{list_all_at}
use Rattle.std.specs.List.{list_all}
use Rattle.ir_lex.specs.Characters.{is_digit}
use Rattle.ir_lex.specs.Literals.{decimal_after}
use Rattle.ir_lex.proofs.Decimals.{decimal_above, decimal_done, decimal_step}

-- a number above the limit may be replaced by the limit
capped : (limit a : ℕ) (digits : List ℕ) → min (decimal_after (min a limit) digits) limit ≡ min (decimal_after a digits) limit
capped limit a digits = go (cases_lt limit a)
  where
    go : (limit < a) ⊎ (a ≤ limit) → min (decimal_after (min a limit) digits) limit ≡ min (decimal_after a digits) limit
    go (inl l) =
        min-eq_right (omega (arith, l, decimal_above (min a limit) digits))
        ∙ sym (min-eq_right (omega (arith, l, decimal_above a digits)))
    go (inr l) = ap (λ n. min (decimal_after n digits) limit) (min-eq_left l)

scaled : (limit value byte : ℕ) → min (min (value * 10) limit + (byte - 48)) limit ≡ min (10 * value + (byte - 48)) limit
scaled limit value byte = omega arith

pub one_digit_more : (limit value next : ℕ) (digits : List ℕ) (i whole : ℕ) → i < length digits
    → next ≡ min (min (value * 10) limit + (get_or digits i 0 - 48)) limit
    → min (decimal_after value (drop i digits)) limit ≡ whole → min (decimal_after next (drop (i + 1) digits)) limit ≡ whole
one_digit_more limit value next digits i whole l is kept =
    ap (λ n. min (decimal_after n (drop (i + 1) digits)) limit) (is ∙ scaled limit value (get_or digits i 0))
    ∙ capped limit (10 * value + (get_or digits i 0 - 48)) (drop (i + 1) digits)
    ∙ ap (λ n. min n limit) (sym (decimal_step value digits i l))
    ∙ kept

pub all_digits : (limit value : ℕ) (digits : List ℕ) (i whole : ℕ) → length digits ≤ i → value ≤ limit
    → min (decimal_after value (drop i digits)) limit ≡ whole → value ≡ whole
all_digits limit value digits i whole l fits kept =
    sym (min-eq_left fits) ∙ ap (λ n. min n limit) (sym (decimal_done value digits i l)) ∙ kept

-- each of several digits is one
digit_at : (digits : List ℕ) (i : ℕ) → list_all is_digit digits ≡ true → i < length digits → is_digit (get_or digits i 0) ≡ true
digit_at digits i all inside = go (is_digit (get_or digits i 0)) refl
  where
    go : (b : Bool) → is_digit (get_or digits i 0) ≡ b → is_digit (get_or digits i 0) ≡ true
    go true is = is
    go false is = absurd (true≢false (sym all ∙ list_all_at is_digit digits i 0 inside is))

pub one_digit : (digits : List ℕ) (i : ℕ) → list_all is_digit digits ≡ true → i < length digits → get_or digits i 0 - 48 < 10
one_digit digits i all inside = let is = digit_at digits i all inside in grind (arith, nat_tests, is)

pub no_less : (digits : List ℕ) (i : ℕ) → list_all is_digit digits ≡ true → i < length digits → 48 ≤ get_or digits i 0
no_less digits i all inside = let is = digit_at digits i all inside in grind (arith, nat_tests, is)
