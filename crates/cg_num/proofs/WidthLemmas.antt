-- Powers of two that widths make.
use Rattle.std.specs.Prelude.{◌≡◌, ℕ, suc, ◌+◌, ◌-◌, ◌%◌, ◌^◌, ◌<◌, ◌≤◌}
use Rattle.std.proofs.Common.{arith, ap, ◌∙◌}
use Rattle.std.proofs.Math.Nat.{mod-eq-sub-mod, mod-eq_of_lt, pow-le-pow_right, pow-succ'}

-- moduli are at most that of more bits
pub power_within : (k more : ℕ) → k ≤ more → 2 ^ k ≤ 2 ^ more
power_within k more h = pow-le-pow_right (omega arith) h

-- so are halves of them
pub half_within : (bits : ℕ) → bits ≤ 128 → 2 ^ (bits - 1) ≤ 2 ^ 127
half_within bits h = power_within (bits - 1) 127 (omega (arith, h))

pub modulus_within : (bits : ℕ) → bits ≤ 128 → 2 ^ bits ≤ 2 ^ 128
modulus_within bits h = power_within bits 128 h

doubled : (k : ℕ) → 2 ^ suc k ≡ 2 ^ k + 2 ^ k
doubled k = omega (arith, pow-succ' 2 k)

-- twice the half is the modulus
pub two_halves : (bits : ℕ) → 0 < bits → 2 ^ bits ≡ 2 ^ (bits - 1) + 2 ^ (bits - 1)
two_halves bits h = let next : bits ≡ suc (bits - 1) = omega (arith, h) in ap (λ n. 2 ^ n) next ∙ doubled (bits - 1)

-- a number below twice a modulus
pub less_one_modulus : (n m : ℕ) → m ≤ n → n < m + m → n % m ≡ n - m
less_one_modulus n m h k = mod-eq-sub-mod h ∙ mod-eq_of_lt (omega (arith, h, k))
