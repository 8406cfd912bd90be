-- What std reads as a number, in the words of `is_number`.
use Rattle.std.proofs.Common.{◌≡◌, ◌<◌, ◌≤◌, ◌^◌, ℕ, true, cond, ◌&&◌, List, length, Option, Some, None, refl, arith, Err, nat_le, inl, inr}
use Rattle.std.specs.Char.{is_ascii_digit}
use Rattle.std.specs.List.{list_all}
use Rattle.std.specs.Str.Parse.{ParsesUnsigned, digits_value}
use Rattle.std.proofs.lemmas.Bool.{and_parts, cases_lt}
use Rattle.std.proofs.lemmas.Bool.Decides.{nat_tests}
use Rattle.std.proofs.lemmas.Str.Parse.{IsDigitsTest, IsNumeralModel, numerals_by_value, parse_digits, tells_all_ascii_digits}
use Rattle.llc_words.specs.Numbers.{is_number, number_up_to}

abbrev AreDigits : List ℕ → Type 0
AreDigits text = list_all is_ascii_digit text ≡ true

tells_digits : IsDigitsTest AreDigits
tells_digits = record { empty = refl; parts = tells_all_ascii_digits.parts; more = tells_all_ascii_digits.more }

numerals : IsNumeralModel AreDigits (digits_value 10)
numerals = numerals_by_value AreDigits tells_digits

above : (most value : ℕ) (o : Option ℕ) → most < value → cond (nat_le value most) o None ≡ None
above most value o more = grind (arith, nat_tests)

-- a number that takes more than 64 bits is more than one of 64 bits
pub too_large : {E : Type 0} (most : ℕ) (text : List ℕ) (e : E) → most < 2 ^ 64 → is_number text ≡ true → ParsesUnsigned 64 10 text (Err e)
    → number_up_to most text ≡ None
too_large most text e fits is parsed =
    let parts = and_parts (list_all is_ascii_digit text) (nat_le 1 (length text) && nat_le (length text) 20) is in
    let some : 1 ≤ length text = grind (arith, nat_tests, and_parts (nat_le 1 (length text)) (nat_le (length text) 20) parts.1) in
    let unread = parse_digits numerals 64 text (Err e) parsed parts.0 in
    elim (cases_lt (digits_value 10 text) (2 ^ 64)) [
      | inl less ↦ absurd (unread (some, less))
      | inr more ↦ rw is (above most (digits_value 10 text) (Some (digits_value 10 text)) (omega arith))
    ]
