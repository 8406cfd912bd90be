-- A number is at least what its first digits are.
use Rattle.std.proofs.Common.{◌≡◌, ℕ, zero, suc, ◌+◌, ◌-◌, ◌*◌, ◌^◌, ◌<◌, ◌≤◌, ◌==◌, Bool, cond, List, [], ◌∷◌, arith, true, false, drop, get_or, length, nat_le, subst, sym}
use Rattle.std.proofs.lemmas.List.{at_drop_all, at_drop_more, get_or-drop, length-drop}
use Rattle.std.proofs.lemmas.Bool.Decides.{nat_tests}
use Rattle.std.proofs.lemmas.Bool.{le-leb}
use Rattle.ir_lex.specs.Lengths.{minus_len}
use Rattle.ir_lex.specs.Literals.{decimal_after, is_in_range}

pub decimal_step : (value : ℕ) (digits : List ℕ) (i : ℕ) → i < length digits → decimal_after value (drop i digits) ≡ decimal_after (10 * value + (get_or digits i 0 - 48)) (drop (i + 1) digits)
unfolding decimal_after
decimal_step value digits i l = at_drop_more (decimal_after value) digits i 0 l

pub decimal_done : (value : ℕ) (digits : List ℕ) (i : ℕ) → length digits ≤ i → decimal_after value (drop i digits) ≡ value
unfolding decimal_after
decimal_done value digits i l = at_drop_all (decimal_after value) digits i l

pub decimal_above : (value : ℕ) (digits : List ℕ) → value ≤ decimal_after value digits
unfolding decimal_after
decimal_above value [] = omega arith
decimal_above value (digit ∷ digits) =
    let later = decimal_above (10 * value + (digit - 48)) digits in omega arith

pub too_large : (limit value : ℕ) (digits : List ℕ) (i : ℕ) → i < length digits → decimal_after value (drop i digits) ≡ decimal_after 0 digits → limit < 10 * value + (get_or digits i 0 - 48) → nat_le (decimal_after 0 digits) limit ≡ false
too_large limit value digits i l kept more =
    let step = decimal_step value digits i l in
    let above = decimal_above (10 * value + (get_or digits i 0 - 48)) (drop (i + 1) digits) in
    grind (arith, nat_tests)

-- the largest number that so many bytes can make of a number
largest : ℕ → ℕ → ℕ
largest zero value = value
largest (suc more) value = largest more (10 * value + 207)

largest_above : (more value : ℕ) → value ≤ largest more value
unfolding largest
largest_above zero value = omega arith
largest_above (suc more) value = omega (arith, largest_above more (10 * value + 207))

below_largest : (more value limit : ℕ) (digits : List ℕ) → ((k : ℕ) → get_or digits k 0 < 256) → length digits ≤ more → value ≤ limit → decimal_after value digits ≤ largest more limit
unfolding decimal_after largest
below_largest more value limit [] bytes few low = omega (arith, largest_above more limit, low)
below_largest zero value limit (digit ∷ digits) bytes few low = absurd (omega arith)
below_largest (suc more) value limit (digit ∷ digits) bytes few low =
    below_largest more (10 * value + (digit - 48)) (10 * limit + 207) digits (λ k. bytes (suc k)) (omega arith) (omega (arith, bytes 0))

pub short_in_range : (text : List ℕ) → ((k : ℕ) → get_or text k 0 < 256) → length text ≤ 19 → is_in_range text ≡ true
unfolding is_in_range largest
short_in_range text bytes short =
    let n = minus_len text in
    let low : decimal_after 0 (drop n text) ≤ largest 19 0 =
    below_largest 19 0 0 (drop n text) (λ k. subst (λ b. b < 256) (sym (get_or-drop n text k 0)) (bytes (n + k))) (omega (arith, length-drop n text)) (omega arith) in
    cases (get_or text 0 0 == 45) low
  where
    cases : (t : Bool) → decimal_after 0 (drop (minus_len text) text) ≤ largest 19 0 → nat_le (decimal_after 0 (drop (minus_len text) text)) (cond t (2 ^ 127) (2 ^ 128 - 1)) ≡ true
    cases true low = le-leb _ _ (omega (arith, low))
    cases false low = le-leb _ _ (omega (arith, low))
