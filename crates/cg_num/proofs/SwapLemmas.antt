-- Bytes taken off the low end of one number and put behind another.
use Rattle.std.specs.Prelude.{◌≡◌, ℕ, zero, suc, ◌+◌, ◌*◌, ◌-◌, ◌/◌, ◌%◌, ◌^◌, ◌<◌, ◌≤◌}
use Rattle.std.proofs.Common.{arith, ap, ◌∙◌}
use Rattle.std.proofs.Math.Nat.{pow-le-pow_right, pow-succ'}
use Rattle.cg_num.specs.Functions.{swapped}

spread : (r d p : ℕ) → (r * 256 + d) * p ≡ r * (256 * p) + d * p
spread r d p = grind arith

-- one more byte
one_byte : (left r rest : ℕ) → 0 < left →
    r * 256 ^ left + swapped left rest ≡ (r * 256 + rest % 256) * 256 ^ (left - 1) + swapped (left - 1) (rest / 256)
one_byte zero r rest h = absurd (omega (arith, h))
one_byte (suc left) r rest h =
    let less : left ≡ suc left - 1 = omega arith in
    ap (λ n. r * n + swapped (suc left) rest) (pow-succ' 256 left) ∙ moved ∙ ap (λ n. (r * 256 + rest % 256) * 256 ^ n + swapped n (rest / 256)) less
  where
    moved : r * (256 * 256 ^ left) + (rest % 256 * 256 ^ left + swapped left (rest / 256)) ≡ (r * 256 + rest % 256) * 256 ^ left + swapped left (rest / 256)
    moved = omega (arith, spread r (rest % 256) (256 ^ left))

-- the bytes that are there stay within so many
pub byte_within : (count r d : ℕ) → r < 256 ^ count → d < 256 → r * 256 + d < 256 ^ (count + 1)
byte_within count r d h k = let next : 256 ^ (count + 1) ≡ 256 * 256 ^ count = ap (λ n. 256 ^ n) (omega arith) ∙ pow-succ' 256 count in omega (arith, h, k, next)

-- by how many have moved
pub moved_byte : (bytes count r rest : ℕ) → count < bytes →
    r * 256 ^ (bytes - count) + swapped (bytes - count) rest
    ≡ (r * 256 + rest % 256) * 256 ^ (bytes - (count + 1)) + swapped (bytes - (count + 1)) (rest / 256)
moved_byte bytes count r rest h =
    let less : bytes - count - 1 ≡ bytes - (count + 1) = omega arith in
    one_byte (bytes - count) r rest (omega (arith, h))
    ∙ ap (λ n. (r * 256 + rest % 256) * 256 ^ n + swapped n (rest / 256)) less

power_within : (i j : ℕ) → i ≤ j → 256 ^ i ≤ 256 ^ j
power_within i j h = pow-le-pow_right (omega arith) h

-- one more fits 128 bits
pub byte_fits : (bytes count r : ℕ) → bytes ≤ 16 → count < bytes → r < 256 ^ count → r < 256 ^ 15
byte_fits bytes count r h less k = omega (arith, k, power_within count 15 (omega (arith, h, less)))
