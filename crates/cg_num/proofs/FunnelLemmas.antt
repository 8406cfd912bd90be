-- Two numbers as one of twice the width.
use Rattle.std.specs.Prelude.{◌≡◌, ℕ, ◌+◌, ◌*◌, ◌-◌, ◌/◌, ◌%◌, ◌^◌, ◌<◌, ◌≤◌}
use Rattle.std.proofs.Common.{arith, sym, ap, subst, ◌∙◌}
use Rattle.std.proofs.lemmas.Nat.{div-mul-add, mod-pow-add, mod_low, pow-add, pow_pos, shl_whole, shr_below, shr_high}
use Rattle.std.proofs.Math.Nat.{add-mul-div_right, mod-eq_of_lt, mod-lt, mul_assoc}
use Rattle.cg_num.proofs.WidthLemmas.{power_within}
use Rattle.cg_num.specs.Functions.{funnel}

modulus_of : (bits k : ℕ) → k ≤ bits → 2 ^ bits ≡ 2 ^ (bits - k) * 2 ^ k
modulus_of bits k h = let parts : bits ≡ bits - k + k = omega (arith, h) in ap (λ n. 2 ^ n) parts ∙ pow-add 2 (bits - k) k

quotient : (bits a b k : ℕ) → k ≤ bits → (a * 2 ^ bits + b) / 2 ^ k ≡ a * 2 ^ (bits - k) + b / 2 ^ k
quotient bits a b k h =
    let product : a * 2 ^ bits ≡ a * 2 ^ (bits - k) * 2 ^ k =
    ap (λ n. a * n) (modulus_of bits k h) ∙ sym (mul_assoc a (2 ^ (bits - k)) (2 ^ k)) in
    let order : a * 2 ^ bits + b ≡ b + a * 2 ^ (bits - k) * 2 ^ k = omega (arith, product) in
    ap (λ n. n / 2 ^ k) order ∙ add-mul-div_right b (a * 2 ^ (bits - k)) (pow_pos k) ∙ omega arith

-- a number in front of fewer bits, modulo a power of two
split : (a y k r : ℕ) → y < 2 ^ r → (a * 2 ^ r + y) % 2 ^ (k + r) ≡ a % 2 ^ k * 2 ^ r + y
split a y k r h =
    mod-pow-add (a * 2 ^ r + y) k r
    ∙ ap (λ n. n % 2 ^ k * 2 ^ r + (a * 2 ^ r + y) % 2 ^ r) (shr_high a r y h)
    ∙ ap (λ n. a % 2 ^ k * 2 ^ r + n) (mod_low a r y h)

rest_below : (bits b k : ℕ) → k ≤ bits → b < 2 ^ bits → b / 2 ^ k < 2 ^ (bits - k)
rest_below bits b k h within =
    let parts : bits ≡ bits - k + k = omega (arith, h) in shr_below b (bits - k) k (subst (λ n. b < 2 ^ n) parts within)

pub funnel_parts : (bits a b k : ℕ) → k ≤ bits → b < 2 ^ bits → a % 2 ^ k * 2 ^ (bits - k) + b / 2 ^ k ≡ funnel bits a b k
funnel_parts bits a b k h within =
    let parts : k + (bits - k) ≡ bits = omega (arith, h) in
    sym
    (ap (λ n. n % 2 ^ bits) (quotient bits a b k h)
    ∙ ap (λ n. (a * 2 ^ (bits - k) + b / 2 ^ k) % 2 ^ n) (sym parts)
    ∙ split a (b / 2 ^ k) k (bits - k) (rest_below bits b k h within))

-- no bit of the first number leaves 128 bits
pub shifted_part : (bits a k : ℕ) → k ≤ bits → bits ≤ 128 →
    a % 2 ^ k * 2 ^ (bits - k) % 340282366920938463463374607431768211456 ≡ a % 2 ^ k * 2 ^ (bits - k)
shifted_part bits a k h fits = shl_whole (a % 2 ^ k) k (bits - k) 128 (mod-lt a (pow_pos k)) (omega (arith, h, fits))

-- all of the second number is dropped
pub funnel_all : (bits a b : ℕ) → a < 2 ^ bits → b < 2 ^ bits → a ≡ funnel bits a b bits
funnel_all bits a b small within = sym (ap (λ n. n % 2 ^ bits) (div-mul-add a (2 ^ bits) b within) ∙ mod-eq_of_lt small)

-- none of it is
pub funnel_none : (bits a b : ℕ) → b < 2 ^ bits → b ≡ funnel bits a b 0
funnel_none bits a b within =
    let whole : (a * 2 ^ bits + b) / 1 ≡ a * 2 ^ bits + b = omega arith in
    sym (ap (λ n. n % 2 ^ bits) whole ∙ mod_low a bits b within)

-- 128 bits hold both parts
pub joined_within : (bits a b k : ℕ) → k ≤ bits → bits ≤ 128 → b < 2 ^ bits →
    a % 2 ^ k * 2 ^ (bits - k) % 340282366920938463463374607431768211456 + b / 2 ^ k < 340282366920938463463374607431768211456
joined_within bits a b k h fits within =
    let below : funnel bits a b k < 2 ^ bits = mod-lt ((a * 2 ^ bits + b) / 2 ^ k) (pow_pos bits) in
    omega (arith, shifted_part bits a k h fits, funnel_parts bits a b k h within, below, power_within bits 128 fits)
