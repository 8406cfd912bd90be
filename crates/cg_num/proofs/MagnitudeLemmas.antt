-- Numbers without their signs.
use Rattle.std.specs.Prelude.{◌≡◌, ℕ, suc, ◌+◌, ◌-◌, ◌%◌, ◌<◌, ◌≤◌}
use Rattle.std.proofs.Common.{arith, sym, ◌∙◌}
use Rattle.std.proofs.Math.Nat.{mod-eq_of_lt}

pub own_remainder : (a m : ℕ) → a < m → a ≡ a % m
own_remainder a m h = sym (mod-eq_of_lt h)

pub negative_magnitude : (a m half : ℕ) → m ≡ half + half → 0 < half → half ≤ a → a < m → m - 1 - a + 1 ≡ suc (m - suc a) % m
negative_magnitude a m half twice some low h =
    let same : m - 1 - a + 1 ≡ suc (m - suc a) = omega (arith, h) in
    same ∙ own_remainder (suc (m - suc a)) m (omega (arith, twice, some, low, h))
