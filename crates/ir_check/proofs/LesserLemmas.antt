-- The least of numbers with a property and of the numbers of a list.
use Rattle.std.proofs.Common.{◌≡◌, ℕ, ◌≤◌, ◌⊎◌, inl, inr, Bool, true, false, ◌||◌, true≢false, min, nat_eq, Option, None, Some, List, [], ◌∷◌, refl, sym, subst, arith}
use Rattle.std.specs.List.{fold, list_any, reduce}
use Rattle.std.proofs.lemmas.Bool.{or_cases}
use Rattle.std.proofs.lemmas.Bool.Decides.{nat_tests}
use Rattle.std.proofs.Math.Logic.{⊎_elim}
use Rattle.ir_check.specs.Lesser.{lesser}
use Rattle.ir_defined.specs.Least.{IsLeast}

abbrev Among : List ℕ → ℕ → Type 0
Among xs n = list_any (nat_eq n) xs ≡ true

same-number : (a b : ℕ) → nat_eq a b ≡ true → a ≡ b
same-number a b same = grind (arith, nat_tests)

or-first : (a b : Bool) → a ≡ true → (a || b) ≡ true
or-first true b is = refl
or-first false b is = absurd (true≢false (sym is))

or-second : (a b : Bool) → b ≡ true → (a || b) ≡ true
or-second true b is = refl
or-second false b is = is

itself : (n : ℕ) → nat_eq n n ≡ true
itself n = grind (arith, nat_tests)

one-of : (k a b : ℕ) → k ≡ min a b → (nat_eq k a ≡ true) ⊎ (nat_eq k b ≡ true)
one-of k a b same = by (nat_eq k a) refl
  where
    by : (t : Bool) → nat_eq k a ≡ t → (nat_eq k a ≡ true) ⊎ (nat_eq k b ≡ true)
    by true is = inl is
    by false differs = inr (grind (arith, nat_tests, same, differs))

-- one of two numbers and of the numbers of a list
among-first : (x y n : ℕ) (xs : List ℕ) → nat_eq n (min x y) ≡ true → Among (x ∷ y ∷ xs) n
among-first x y n xs is =
    ⊎_elim (λ first. or-first (nat_eq n x) _ first) (λ second. or-second (nat_eq n x) _ (or-first (nat_eq n y) _ second))
    (one-of n x y (same-number n (min x y) is))

-- the least of a number and the numbers of a list is one of them
fold-among : (x : ℕ) (xs : List ℕ) → Among (x ∷ xs) (fold min x xs)
fold-among x [] = or-first (nat_eq x x) false (itself x)
fold-among x (y ∷ xs) =
    ⊎_elim (among-first x y (fold min (min x y) xs) xs)
    (λ later. or-second (nat_eq (fold min (min x y) xs) x) _ (or-second (nat_eq (fold min (min x y) xs) y) _ later))
    (or_cases (nat_eq (fold min (min x y) xs) (min x y)) (list_any (nat_eq (fold min (min x y) xs)) xs) (fold-among (min x y) xs))

-- and not above any of them
fold-least : (x : ℕ) (xs : List ℕ) (n : ℕ) → Among (x ∷ xs) n → fold min x xs ≤ n
fold-least x [] n among = ⊎_elim (λ is. let same : n ≡ x = same-number n x is in omega (arith, same)) (λ none. absurd (true≢false (sym none))) (or_cases (nat_eq n x) false among)
fold-least x (y ∷ xs) n among =
    ⊎_elim
    (λ is. let same : n ≡ x = same-number n x is in at-most (fold-least (min x y) xs (min x y) (or-first _ _ (itself (min x y)))) (omega (arith, same)))
    (λ later. ⊎_elim
    (λ is. let same : n ≡ y = same-number n y is in at-most (fold-least (min x y) xs (min x y) (or-first _ _ (itself (min x y)))) (omega (arith, same)))
    (λ more. fold-least (min x y) xs n (or-second (nat_eq n (min x y)) _ more))
    (or_cases (nat_eq n y) (list_any (nat_eq n) xs) later))
    (or_cases (nat_eq n x) (list_any (nat_eq n) (y ∷ xs)) among)
  where
    at-most : {a b c : ℕ} → a ≤ b → b ≤ c → a ≤ c
    at-most low high = omega (arith, low, high)

other : (k m : ℕ) → nat_eq (min k m) k ≡ false → min k m ≡ m
other k m differs = grind (arith, nat_tests, differs)

pub least_with : (P : ℕ → Type 0) (xs : List ℕ) (a : Option ℕ) → IsLeast P a → IsLeast (λ n. P n ⊎ Among xs n) (lesser a (reduce min xs))
least_with P [] None none = go
  where
    go : (n : ℕ) → P n ⊎ (false ≡ true) → ⊥
    go n (inl has) = none n has
    go n (inr never) = true≢false (sym never)
least_with P [] (Some k) (has, least) = (inl has, go)
  where
    go : (n : ℕ) → P n ⊎ (false ≡ true) → k ≤ n
    go n (inl h) = least n h
    go n (inr never) = absurd (true≢false (sym never))
least_with P (x ∷ xs) None none = (inr (fold-among x xs), go)
  where
    go : (n : ℕ) → P n ⊎ Among (x ∷ xs) n → fold min x xs ≤ n
    go n (inl has) = absurd (none n has)
    go n (inr among) = fold-least x xs n among
least_with P (x ∷ xs) (Some k) (has, least) = (here (nat_eq (min k (fold min x xs)) k) refl, go)
  where
    go : (n : ℕ) → P n ⊎ Among (x ∷ xs) n → min k (fold min x xs) ≤ n
    go n (inl h) = let low = least n h in omega (arith, low)
    go n (inr among) = let low = fold-least x xs n among in omega (arith, low)

    here : (t : Bool) → nat_eq (min k (fold min x xs)) k ≡ t → P (min k (fold min x xs)) ⊎ Among (x ∷ xs) (min k (fold min x xs))
    here true is = inl (subst P (sym (same-number (min k (fold min x xs)) k is)) has)
    here false differs = inr (subst (Among (x ∷ xs)) (sym (other k (fold min x xs) differs)) (fold-among x xs))
