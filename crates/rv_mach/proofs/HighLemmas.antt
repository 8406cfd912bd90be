-- The high half of a product with signs is that of the product without, less the other factor for each that is negative.
use Rattle.std.proofs.Common.{◌≡◌, ◌∙◌, ap, sym, ℕ, zero, suc, ◌+◌, ◌-◌, ◌*◌, ◌/◌, ◌%◌, ◌^◌, ◌<◌, ◌≤◌, ℤ, pos, negsuc, arith}
use Rattle.std.specs.Prelude.{◌*ℤ◌, neg_ℤ}
use Rattle.std.proofs.Math.Nat.{add-mul, mul-add}
use Rattle.std.proofs.lemmas.Bool.Decides.{nat_tests}
use Rattle.cg_num.specs.Signed.{signed, modulo, floored}
use Rattle.rv_mach.specs.Values.{high_signed, high_mixed}

signed_plain : (a : ℕ) → a < 2 ^ 63 → signed 64 a ≡ pos a
signed_plain a low = grind (arith, nat_tests)

signed_negative : (a : ℕ) → 2 ^ 63 ≤ a → signed 64 a ≡ negsuc (2 ^ 64 - suc a)
signed_negative a high = grind (arith, nat_tests)

-- the two products with a factor and its complement
left_split : (n a b : ℕ) → n + a ≡ 2 ^ 64 → n * b + a * b ≡ 2 ^ 64 * b
left_split n a b whole = sym (add-mul n a b) ∙ ap (λ w. w * b) whole

right_split : (a n b : ℕ) → n + b ≡ 2 ^ 64 → a * n + a * b ≡ 2 ^ 64 * a
right_split a n b whole = sym (mul-add a n b) ∙ ap (λ w. a * w) whole ∙ omega arith

-- the high half of a product whose complement is this one
negative_high : (n p b : ℕ) → n + p ≡ 2 ^ 64 * b → b < 2 ^ 64
    → modulo 64 (floored (neg_ℤ (pos n)) (2 ^ 64)) ≡ (p / 2 ^ 64 + (2 ^ 64 - b)) % 2 ^ 64
negative_high zero p b split fits = omega arith
negative_high (suc n) p b split fits = omega arith

high : ℤ → ℕ
high z = modulo 64 (floored z (2 ^ 64))

pub mixed_plain : (a b : ℕ) → a < 2 ^ 63 → a * b / 2 ^ 64 < 2 ^ 64 → high_mixed a b ≡ a * b / 2 ^ 64
unfolding high
mixed_plain a b low fits = ap (λ z. high (z *ℤ pos b)) (signed_plain a low) ∙ omega arith

pub mixed_negative : (a b : ℕ) → 2 ^ 63 ≤ a → a < 2 ^ 64 → b < 2 ^ 64
    → high_mixed a b ≡ (a * b / 2 ^ 64 + (2 ^ 64 - b)) % 2 ^ 64
unfolding high
mixed_negative a b above below fits =
    ap (λ z. high (z *ℤ pos b)) (signed_negative a above)
    ∙ negative_high (suc (2 ^ 64 - suc a) * b) (a * b) b (left_split (suc (2 ^ 64 - suc a)) a b (omega arith)) fits

pub signed_plain_both : (a b : ℕ) → a < 2 ^ 63 → b < 2 ^ 63 → a * b / 2 ^ 64 < 2 ^ 64 → high_signed a b ≡ a * b / 2 ^ 64
unfolding high
signed_plain_both a b low low' fits =
    ap (λ z. high (z *ℤ signed 64 b)) (signed_plain a low) ∙ ap (λ z. high (pos a *ℤ z)) (signed_plain b low') ∙ omega arith

pub signed_first : (a b : ℕ) → 2 ^ 63 ≤ a → a < 2 ^ 64 → b < 2 ^ 63
    → high_signed a b ≡ (a * b / 2 ^ 64 + (2 ^ 64 - b)) % 2 ^ 64
unfolding high
signed_first a b above below low =
    ap (λ z. high (z *ℤ signed 64 b)) (signed_negative a above) ∙ ap (λ z. high (negsuc (2 ^ 64 - suc a) *ℤ z)) (signed_plain b low)
    ∙ negative_high (suc (2 ^ 64 - suc a) * b) (a * b) b (left_split (suc (2 ^ 64 - suc a)) a b (omega arith)) (omega arith)

pub signed_second : (a b : ℕ) → a < 2 ^ 63 → 2 ^ 63 ≤ b → b < 2 ^ 64
    → high_signed a b ≡ (a * b / 2 ^ 64 + (2 ^ 64 - a)) % 2 ^ 64
unfolding high
signed_second a b low above below =
    ap (λ z. high (z *ℤ signed 64 b)) (signed_plain a low) ∙ ap (λ z. high (pos a *ℤ z)) (signed_negative b above)
    ∙ negative_high (a * suc (2 ^ 64 - suc b)) (a * b) a (right_split a (suc (2 ^ 64 - suc b)) b (omega arith)) (omega arith)

both_high : (n q p a b : ℕ) → n + q ≡ 2 ^ 64 * (2 ^ 64 - b) → q + p ≡ 2 ^ 64 * a → a < 2 ^ 64 → b < 2 ^ 64
    → n / 2 ^ 64 % 2 ^ 64 ≡ ((p / 2 ^ 64 + (2 ^ 64 - b)) % 2 ^ 64 + (2 ^ 64 - a)) % 2 ^ 64
both_high n q p a b first second fits fits' = omega arith

pub signed_both : (a b : ℕ) → 2 ^ 63 ≤ a → a < 2 ^ 64 → 2 ^ 63 ≤ b → b < 2 ^ 64
    → high_signed a b ≡ ((a * b / 2 ^ 64 + (2 ^ 64 - b)) % 2 ^ 64 + (2 ^ 64 - a)) % 2 ^ 64
unfolding high
signed_both a b above below above' below' =
    let n = suc (2 ^ 64 - suc b) in
    let whole : n ≡ 2 ^ 64 - b = omega arith in
    ap (λ z. high (z *ℤ signed 64 b)) (signed_negative a above)
    ∙ ap (λ z. high (negsuc (2 ^ 64 - suc a) *ℤ z)) (signed_negative b above')
    ∙ both_high (suc (2 ^ 64 - suc a) * n) (a * n) (a * b) a b
    (left_split (suc (2 ^ 64 - suc a)) a n (omega arith) ∙ ap (λ w. 2 ^ 64 * w) whole) (right_split a n b (omega arith)) below below'
