-- Integers that a width holds.
use Rattle.std.specs.Prelude.{◌≡◌, ◌⊎◌, ℕ, ◌-◌, ◌^◌, ◌<◌, ◌≤◌, ℤ, pos, negsuc, false, nat_lt, FitsSigned}
use Rattle.std.proofs.Common.{arith, inl, inr}
use Rattle.std.proofs.lemmas.Bool.{cases_lt}
use Rattle.std.proofs.lemmas.Bool.Decides.{nat_tests}
use Rattle.std.proofs.lemmas.Int.{fits_signed_from_abs}
use Rattle.std.specs.Int.{w128}
use Rattle.cg_num.proofs.WidthLemmas.{half_within}
use Rattle.cg_num.specs.Signed.{fits_signed}

beyond : (bits n : ℕ) → bits ≤ 128 → (n < 2 ^ 127 → ⊥) → false ≡ nat_lt n (2 ^ (bits - 1))
beyond bits n h far = by (cases_lt n (2 ^ 127))
  where
    by : (n < 2 ^ 127) ⊎ (2 ^ 127 ≤ n) → false ≡ nat_lt n (2 ^ (bits - 1))
    by (inl k) = absurd (far k)
    by (inr k) = grind (arith, nat_tests, half_within bits h)

-- what 128 bits do not hold, fewer do not hold either
pub fits_no_width : (bits : ℕ) (z : ℤ) → bits ≤ 128 → (FitsSigned w128 z → ⊥) → false ≡ fits_signed bits z
fits_no_width bits (pos n) h far = beyond bits n h (λ k. far (fits_signed_from_abs w128 (pos n) k))
fits_no_width bits (negsuc n) h far = beyond bits n h (λ k. far (record { sfits = k }))
