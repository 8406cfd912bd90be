-- Shifts by less than a width.
use Rattle.std.specs.Prelude.{◌≡◌, ℕ, zero, suc, ◌+◌, ◌*◌, ◌-◌, ◌/◌, ◌%◌, ◌^◌, ◌<◌, ◌≤◌, pos, negsuc, ◌*ℤ◌, neg_ℤ, nat_le, nat_lt, ◌⊎◌}
use Rattle.std.proofs.Common.{arith, inl, inr, sym, ap, subst, ◌∙◌}
use Rattle.std.proofs.lemmas.Bool.{cases_lt}
use Rattle.std.proofs.lemmas.Bool.Decides.{nat_tests}
use Rattle.std.proofs.lemmas.Nat.{pow-add, pow_pos}
use Rattle.std.proofs.Math.Nat.{div-le_self, le-div_iff_mul-le, mod-eq_of_lt, mul-div_cancel, mul-le-mul_right, mul-lt-mul_of_pos_right, suc-mul}
use Rattle.std.proofs.Math.Pow.{mod-mod-pow}
use Rattle.cg_num.specs.Signed.{fits_signed}

-- 128 bits keep what fewer keep
pub shifted_twice : (bits n : ℕ) → bits ≤ 128 → n % 2 ^ 128 % 2 ^ bits ≡ n % 2 ^ bits
shifted_twice bits n h =
    let all : 128 ≡ 128 - bits + bits = omega (arith, h) in ap (λ k. n % 2 ^ k % 2 ^ bits) all ∙ mod-mod-pow n (128 - bits) bits

-- a number that is at most a quotient
pub at_most_quotient : (a m q : ℕ) → 0 < q → nat_le a (m / q) ≡ nat_le (a * q) m
at_most_quotient a m q h = grind (arith, nat_tests, le-div_iff_mul-le {k = q} {x = a} {y = m} h)

-- a number shifted to the left is below a modulus
pub shifted_below : (a m q : ℕ) → 0 < q → 0 < m → nat_le a ((m - 1) / q) ≡ nat_lt (a * q) m
shifted_below a m q h k = at_most_quotient a (m - 1) q h ∙ before (a * q) m k
  where
    before : (n m : ℕ) → 0 < m → nat_le n (m - 1) ≡ nat_lt n m
    before n m k = grind (arith, nat_tests)

times : (x q r : ℕ) → 0 < q → nat_lt x r ≡ nat_lt (x * q) (r * q)
times x q r h = by (cases_lt x r)
  where
    by : (x < r) ⊎ (r ≤ x) → nat_lt x r ≡ nat_lt (x * q) (r * q)
    by (inl k) = grind (arith, nat_tests, mul-lt-mul_of_pos_right k h)
    by (inr k) = grind (arith, nat_tests, mul-le-mul_right q k)

next_times : (x q r : ℕ) → 0 < q → nat_lt x r ≡ nat_lt (suc x * q - 1) (r * q)
next_times x q r h = by (cases_lt x r)
  where
    by : (x < r) ⊎ (r ≤ x) → nat_lt x r ≡ nat_lt (suc x * q - 1) (r * q)
    by (inl k) = let within : suc x * q ≤ r * q = mul-le-mul_right q k in grind (arith, nat_tests, within, suc-mul x q)
    by (inr k) = grind (arith, nat_tests, mul-le-mul_right q k, suc-mul x q)

-- half of a modulus is a multiple of what a shift multiplies by
half_by : (bits by : ℕ) → by < bits → 2 ^ (bits - 1) ≡ 2 ^ (bits - 1 - by) * 2 ^ by
half_by bits by h =
    let parts : bits - 1 ≡ bits - 1 - by + by = omega (arith, h) in ap (λ n. 2 ^ n) parts ∙ pow-add 2 (bits - 1 - by) by

-- a number shifted to the left is below the half of the modulus
pub shifted_below_half : (bits by x : ℕ) → by < bits → nat_lt x (2 ^ (bits - 1) / 2 ^ by) ≡ fits_signed bits (pos x *ℤ pos (2 ^ by))
shifted_below_half bits by x h =
    subst (λ half. nat_lt x (half / 2 ^ by) ≡ nat_lt (x * 2 ^ by) half) (sym (half_by bits by h))
    (ap (nat_lt x) (mul-div_cancel (2 ^ (bits - 1 - by)) (pow_pos by)) ∙ times x (2 ^ by) (2 ^ (bits - 1 - by)) (pow_pos by))

negative_fits : (bits n : ℕ) → 0 < n → nat_lt (n - 1) (2 ^ (bits - 1)) ≡ fits_signed bits (neg_ℤ (pos n))
negative_fits bits zero h = absurd (omega (arith, h))
negative_fits bits (suc n) h = let same : suc n - 1 ≡ n = omega arith in ap (λ k. nat_lt k (2 ^ (bits - 1))) same

-- so is what a number below zero stands for
pub negative_below_half : (bits by x : ℕ) → by < bits → nat_lt x (2 ^ (bits - 1) / 2 ^ by) ≡ fits_signed bits (negsuc x *ℤ pos (2 ^ by))
negative_below_half bits by x h =
    subst (λ half. nat_lt x (half / 2 ^ by) ≡ nat_lt (suc x * 2 ^ by - 1) half) (sym (half_by bits by h))
    (ap (nat_lt x) (mul-div_cancel (2 ^ (bits - 1 - by)) (pow_pos by)) ∙ next_times x (2 ^ by) (2 ^ (bits - 1 - by)) (pow_pos by))
    ∙ negative_fits bits (suc x * 2 ^ by) (omega (arith, suc-mul x (2 ^ by), pow_pos by))

-- what a number below zero stands for, rounded down
pub negative_shifted : (m a q : ℕ) → a < m → m - 1 - (m - 1 - a) / q ≡ m - suc ((m - suc a) / q % m)
negative_shifted m a q h =
    let same : m - 1 - a ≡ m - suc a = omega (arith, h) in
    let below : (m - suc a) / q < m = omega (arith, h, div-le_self (m - suc a) q) in
    ap (λ x. m - 1 - x / q) same ∙ before m ((m - suc a) / q) ∙ ap (λ x. m - suc x) (sym (mod-eq_of_lt below))
  where
    before : (m x : ℕ) → m - 1 - x ≡ m - suc x
    before m x = omega arith
