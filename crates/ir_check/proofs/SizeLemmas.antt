-- Sizes as words have them, against limits.
use Rattle.std.proofs.Common.{◌≡◌, ◌∙◌, ℕ, ◌+◌, ◌≤◌, Bool, true, false, ◌||◌, nat_le, nat_lt, Some, None, List, [], ◌∷◌, map, if◌then◌else◌, true≢false, refl, sym, ap, arith}
use Rattle.std.specs.List.{list_all, list_any, sum, sum_by}
use Rattle.std.proofs.lemmas.Bool.{and_parts}
use Rattle.std.proofs.lemmas.Bool.Decides.{nat_tests}
use Rattle.std.proofs.lemmas.List.Sums.{sum-map, sum_by-cons}
use Rattle.ir_cfg.specs.Capped.{capped}
use Rattle.ir_cfg.specs.Sizes.{function_size, whole_size}
use Rattle.ir_cfg.proofs.WholeLemmas.{size-within}
use Rattle.ir_syntax.specs.declared.function.Function.{Function}
use Rattle.ir_syntax.specs.declared.refusal.Count.TheVariants.{Instructions, OneFunction}
use Rattle.ir_check.specs.Limits.{exceeded_size}

above-one : (n : ℕ) → nat_lt 65536 (capped n) ≡ nat_lt 65536 n
above-one n = grind (arith, nat_tests)

-- whether one of these is above the limit of one function
pub above-same : {A : Type 0} (f : A → ℕ) (xs : List A) → list_any (nat_lt 65536) (map (λ x. capped (f x)) xs) ≡ list_any (λ x. nat_lt 65536 (f x)) xs
above-same f [] = refl
above-same f (x ∷ xs) = λ k. above-one (f x) k || above-same f xs k

joined-cap : (a b c : ℕ) → capped b ≡ capped c → capped (capped a + b) ≡ capped (a + c)
joined-cap a b c same = omega (arith, same)

capped-sums : {A : Type 0} (f : A → ℕ) (xs : List A) → capped (sum_by (λ x. capped (f x)) xs) ≡ capped (sum_by f xs)
capped-sums f [] = refl
capped-sums f (x ∷ xs) =
    ap capped (sum_by-cons (λ y. capped (f y)) x xs)
    ∙ joined-cap (f x) (sum_by (λ y. capped (f y)) xs) (sum_by f xs) (capped-sums f xs)
    ∙ ap capped (sym (sum_by-cons f x xs))

above-total : (n : ℕ) → nat_lt 262144 (capped n) ≡ nat_lt 262144 n
above-total n = grind (arith, nat_tests)

-- whether all of them are above the limit of a module
pub total-same : {A : Type 0} (f : A → ℕ) (xs : List A) → nat_lt 262144 (capped (sum (map (λ x. capped (f x)) xs))) ≡ nat_lt 262144 (sum_by f xs)
total-same f xs =
    ap (λ n. nat_lt 262144 (capped n)) (sum-map (λ x. capped (f x)) xs)
    ∙ ap (nat_lt 262144) (capped-sums f xs)
    ∙ above-total (sum_by f xs)

-- the arms of a chain of two tests
pub first-arm : {A : Type 0} (b c : Bool) (x y z : A) → b ≡ true → x ≡ (if b then x else if c then y else z)
first-arm true c x y z h = refl
first-arm false c x y z h = absurd (true≢false (sym h))

pub second-arm : {A : Type 0} (b c : Bool) (x y z : A) → b ≡ false → c ≡ true → y ≡ (if b then x else if c then y else z)
second-arm true c x y z none h = absurd (true≢false none)
second-arm false true x y z none h = refl
second-arm false false x y z none h = absurd (true≢false (sym h))

pub last-arm : {A : Type 0} (b c : Bool) (x y z : A) → b ≡ false → c ≡ false → z ≡ (if b then x else if c then y else z)
last-arm true c x y z none no_more = absurd (true≢false none)
last-arm false true x y z none no_more = absurd (true≢false no_more)
last-arm false false x y z none no_more = refl

above-within : (a b : ℕ) → a ≤ b → nat_le b 65536 ≡ true → nat_lt 65536 a ≡ false
above-within a b within small = grind (arith, nat_tests, within, small)

-- where no function is long with all its blocks, none is with those that some path reaches
pub none-above : (fs : List Function) → list_all (λ f. nat_le (whole_size f) 65536) fs ≡ true → list_any (λ f. nat_lt 65536 (function_size f)) fs ≡ false
none-above [] small = refl
none-above (f ∷ fs) small =
    let both = and_parts (nat_le (whole_size f) 65536) (list_all (λ g. nat_le (whole_size g) 65536) fs) small in
    (λ k. above-within (function_size f) (whole_size f) (size-within f) both.0 k || none-above fs both.1 k)

whole-sum : (fs : List Function) → sum_by function_size fs ≤ sum_by whole_size fs
whole-sum [] = omega arith
whole-sum (f ∷ fs) = omega (arith, whole-sum fs, size-within f, sum_by-cons function_size f fs, sum_by-cons whole_size f fs)

-- nor are all of them
pub total-within : (fs : List Function) (n : ℕ) → n ≡ capped (sum_by whole_size fs) → nat_le n 262144 ≡ true → nat_lt 262144 (sum_by function_size fs) ≡ false
total-within fs n is small = grind (arith, nat_tests, is, small, whole-sum fs)

-- no size is exceeded where none is with all blocks
pub small_sizes : (fs : List Function) (n : ℕ) → list_all (λ f. nat_le (whole_size f) 65536) fs ≡ true → n ≡ capped (sum_by whole_size fs) → nat_le n 262144 ≡ true → exceeded_size fs ≡ None
small_sizes fs n short is small =
    sym (last-arm _ _ (Some OneFunction) (Some Instructions) None (none-above fs short) (total-within fs n is small))
