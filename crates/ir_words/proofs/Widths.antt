-- Numbers of at most two digits.
use Rattle.std.proofs.Common.{◌≡◌, refl, ℕ, ◌+◌, ◌-◌, ◌*◌, List, [], ◌∷◌, arith, length, slice_index}
use Rattle.ir_lex.specs.Literals.{decimal_after}

pub no_digit : (digits : List ℕ) → length digits ≡ 0 → decimal_after 0 digits ≡ 0
unfolding decimal_after
no_digit [] e = refl
no_digit (first ∷ rest) e = omega (arith, e)

pub one_digit : (digits : List ℕ) → length digits ≡ 1 → decimal_after 0 digits ≡ slice_index digits 0 - 48
unfolding decimal_after
one_digit [] e = omega (arith, e)
one_digit (first ∷ []) e = omega arith
one_digit (first ∷ second ∷ rest) e = omega (arith, e)

pub two_digits : (digits : List ℕ) → length digits ≡ 2 → decimal_after 0 digits ≡ 10 * (slice_index digits 0 - 48) + (slice_index digits 1 - 48)
unfolding decimal_after
two_digits [] e = omega (arith, e)
two_digits (first ∷ []) e = omega (arith, e)
two_digits (first ∷ second ∷ []) e = omega arith
two_digits (first ∷ second ∷ third ∷ rest) e = omega (arith, e)
