-- Alignments are positive, and an integer's is the least power of two that holds it.
use Rattle.std.proofs.Common.{◌≡◌, ℕ, suc, zero, ◌/◌, ◌^◌, ◌<◌, ◌≤◌, Bool, true, false, max, arith, refl, subst, inl, inr, nat_le, if◌then◌else◌}
use Rattle.std.specs.Int.{IsPowerOfTwo}
use Rattle.std.proofs.lemmas.Bool.Decides.{nat_tests}
use Rattle.std.proofs.lemmas.Bool.{cases_lt}
use Rattle.std.proofs.Math.Pow.{pow_mono}
use Rattle.ty_core.specs.Size.{least_power, bytes_of, align_of, greatest_align}
use Rattle.ty_core.specs.Tree.{Tree, int, ptr, array, struct, Trees, end, more}

-- no size of up to 32 needs a power of two above 32
pub is_least_power : (size power : ℕ) → size ≤ 32 → IsPowerOfTwo power → size ≤ power → power / 2 < max 1 size → power ≡ least_power size
is_least_power size power small (zero, is) low high = grind (arith, nat_tests, is)
is_least_power size power small (suc zero, is) low high = grind (arith, nat_tests, is)
is_least_power size power small (suc (suc zero), is) low high = grind (arith, nat_tests, is)
is_least_power size power small (suc (suc (suc zero)), is) low high = grind (arith, nat_tests, is)
is_least_power size power small (suc (suc (suc (suc zero))), is) low high = grind (arith, nat_tests, is)
is_least_power size power small (suc (suc (suc (suc (suc zero)))), is) low high = grind (arith, nat_tests, is)
is_least_power size power small (suc (suc (suc (suc (suc (suc k))))), is) low high =
    let large : 2 ^ 6 ≤ 2 ^ suc (suc (suc (suc (suc (suc k))))) = pow_mono {i = 6} {j = suc (suc (suc (suc (suc (suc k)))))} (omega arith) in
    absurd (omega (arith, large, is))

positive_power : (size : ℕ) → 0 < least_power size
positive_power size = grind (arith, nat_tests)

positive_greatest : (fields : Trees) → 0 < greatest_align fields
positive_greatest end = omega arith
positive_greatest (more head tail) = omega (arith, positive_greatest tail)

pub positive_align : (tree : Tree) → 0 < align_of tree
positive_align (int bits) = positive_power (bytes_of bits)
positive_align ptr = omega arith
positive_align (array len elem) = positive_align elem
positive_align (struct true fields) = omega arith
positive_align (struct false fields) = positive_greatest fields

-- the alignment 1, from which the greatest is looked for, changes nothing
pub one_is_least : (fields : Trees) → max 1 (greatest_align fields) ≡ greatest_align fields
one_is_least fields = omega (arith, positive_greatest fields)

power_of_two : (size : ℕ) → IsPowerOfTwo (least_power size)
power_of_two size = by_test (nat_le size 1) (0, refl) (by_test (nat_le size 2) (1, refl) (by_test (nat_le size 4) (2, refl)
    (by_test (nat_le size 8) (3, refl) (by_test (nat_le size 16) (4, refl) (5, refl)))))
  where
    by_test : (test : Bool) {yes no : ℕ} → IsPowerOfTwo yes → IsPowerOfTwo no → IsPowerOfTwo (if test then yes else no)
    by_test true y n = y
    by_test false y n = n

greater : (a b : ℕ) → IsPowerOfTwo a → IsPowerOfTwo b → IsPowerOfTwo (max a b)
greater a b one other = elim (cases_lt a b) [
  | inl below ↦ subst IsPowerOfTwo (omega (arith, below)) other
  | inr above ↦ subst IsPowerOfTwo (omega (arith, above)) one
]

mutual
  pub is_power_of_two : (tree : Tree) → IsPowerOfTwo (align_of tree)
  is_power_of_two (int bits) = power_of_two (bytes_of bits)
  is_power_of_two ptr = (3, refl)
  is_power_of_two (array len elem) = is_power_of_two elem
  is_power_of_two (struct true fields) = (0, refl)
  is_power_of_two (struct false fields) = greatest_is_power fields

  greatest_is_power : (fields : Trees) → IsPowerOfTwo (greatest_align fields)
  greatest_is_power end = (0, refl)
  greatest_is_power (more head tail) = greater (align_of head) (greatest_align tail) (is_power_of_two head) (greatest_is_power tail)
