-- Zeros at the ends of a number of some bits.
use Rattle.std.specs.Prelude.{◌≡◌, ◌⊎◌, ℕ, zero, suc, ◌+◌, ◌-◌, ◌/◌, ◌%◌, ◌^◌, ◌<◌, ◌≤◌}
use Rattle.std.specs.Int.Count.{count_leading_zeros, count_trailing_zeros, under}
use Rattle.std.proofs.Common.{arith, inl, inr, refl, sym, ap, ◌∙◌}
use Rattle.std.proofs.lemmas.Bool.{cases_order}
use Rattle.std.proofs.lemmas.Nat.{leading_top}
use Rattle.std.proofs.Math.Nat.{pow-succ'}
use Rattle.cg_num.proofs.WidthLemmas.{power_within}

no_digit : (k : ℕ) → count_leading_zeros k 0 ≡ k
unfolding count_leading_zeros
no_digit zero = refl
no_digit (suc k) = refl

-- the highest bit that is set is one bit
same_top : (a i j : ℕ) → 2 ^ i ≤ a → a < 2 ^ suc i → 2 ^ j ≤ a → a < 2 ^ suc j → i ≡ j
same_top a i j low high low' high' = by (cases_order i j)
  where
    by : (i ≡ j) ⊎ ((i < j) ⊎ (j < i)) → i ≡ j
    by (inl same) = same
    by (inr (inl less)) = absurd (omega (arith, high, low', power_within (suc i) j (omega (arith, less))))
    by (inr (inr less)) = absurd (omega (arith, low, high', power_within (suc j) i (omega (arith, less))))

-- the zeros above a number in 128 bits are those in fewer and the rest
pub leading_in_word : (bits a : ℕ) → bits ≤ 128 → a < 2 ^ bits → count_leading_zeros 128 a ≡ 128 - bits + count_leading_zeros bits a
leading_in_word bits zero h within = omega (arith, h, no_digit 128, no_digit bits)
leading_in_word bits (suc a) h within =
    let wide = leading_top 128 (suc a) (omega arith) (omega (arith, within, power_within bits 128 h)) in
    let narrow = leading_top bits (suc a) (omega arith) within in
    omega (arith, h, wide.1, narrow.1, same_top (suc a) wide.0 narrow.0 wide.2 wide.3 narrow.2 narrow.3)

no_low_digit : (k : ℕ) → count_trailing_zeros k 0 ≡ k
unfolding count_trailing_zeros
no_low_digit zero = refl
no_low_digit (suc k) = ap (λ n. suc n) (no_low_digit k)

below : (k n : ℕ) → count_trailing_zeros (suc k) n ≡ under (n % 2) (count_trailing_zeros k (n / 2))
unfolding count_trailing_zeros
below k n = refl

under_same : (d x y : ℕ) → (d ≡ 0 → x ≡ y) → under d x ≡ under d y
under_same zero x y same = ap (λ n. suc n) (same refl)
under_same (suc d) x y same = refl

-- a number has no more zeros below its lowest bit in a wider word
trailing_in_more : (bits more a : ℕ) → 0 < a → a < 2 ^ bits → count_trailing_zeros (bits + more) a ≡ count_trailing_zeros bits a
trailing_in_more zero more a some within = absurd (omega (arith, some, within))
trailing_in_more (suc bits) more a some within =
    let next : suc bits + more ≡ suc (bits + more) = omega arith in
    ap (λ k. count_trailing_zeros k a) next ∙ below (bits + more) a
    ∙ under_same (a % 2) (count_trailing_zeros (bits + more) (a / 2)) (count_trailing_zeros bits (a / 2))
    (λ even. trailing_in_more bits more (a / 2) (omega (arith, some, even)) (omega (arith, within, pow-succ' 2 bits)))
    ∙ sym (below bits a)

-- of 128 bits as many as of fewer
pub trailing_in_word : (bits a : ℕ) → bits ≤ 128 → 0 < a → a < 2 ^ bits → count_trailing_zeros 128 a ≡ count_trailing_zeros bits a
trailing_in_word bits a h some within =
    let all : 128 ≡ bits + (128 - bits) = omega (arith, h) in
    ap (λ k. count_trailing_zeros k a) all ∙ trailing_in_more bits (128 - bits) a some within

-- of zero all
pub trailing_of_zero : (bits a : ℕ) → a ≡ 0 → bits ≡ count_trailing_zeros bits a
trailing_of_zero bits a is = sym (ap (count_trailing_zeros bits) is ∙ no_low_digit bits)

-- the zeros above fewer bits are among those of 128
pub leading_enough : (bits a : ℕ) → bits ≤ 128 → a < 2 ^ bits → 128 - bits ≤ count_leading_zeros 128 a
leading_enough bits a h within = omega (arith, leading_in_word bits a h within)
