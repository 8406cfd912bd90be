-- Items whose marks are true, one more after the other.
use Rattle.std.proofs.Common.{◌≡◌, ◌∙◌, ℕ, zero, suc, ◌+◌, ◌<◌, Bool, true, false, List, [], ◌∷◌, ◌++◌, length, min, take, get_or, flat_map, if◌then◌else◌, refl, sym, ap, arith}
use Rattle.std.specs.List.{sum_by}
use Rattle.std.proofs.lemmas.Grind.{flat_map-append}
use Rattle.std.proofs.lemmas.List.{append-nil}
use Rattle.std.proofs.lemmas.List.Sums.{sum_by-append}
use Rattle.ir_cfg.specs.Capped.{capped}
use Rattle.ir_cfg.specs.Reached.{marked}
use Rattle.ir_cfg.specs.Searches.{mark_at}

abbrev one_if : {A : Type 0} → Bool → A → List A
one_if here x = if here then x ∷ [] else []

marked-none : {A : Type 0} (marks : List Bool) → marked {A = A} marks [] ≡ []
marked-none [] = refl
marked-none (true ∷ marks) = refl
marked-none (false ∷ marks) = refl

marked-first : {A : Type 0} (marks : List Bool) (x : A) → marked marks (x ∷ []) ≡ one_if (mark_at marks 0) x
marked-first [] x = refl
marked-first (true ∷ marks) x = ap (λ rest. x ∷ rest) (marked-none marks)
marked-first (false ∷ marks) x = marked-none marks

-- the marked items up to one more
marked-more : {A : Type 0} (marks : List Bool) (xs : List A) (i : ℕ) (x : A) → i < length xs → x ≡ get_or xs i x →
    marked marks (take (suc i) xs) ≡ marked marks (take i xs) ++ one_if (mark_at marks i) x
marked-more marks [] i x inside is = absurd (omega (arith, inside))
marked-more marks (y ∷ xs) zero x inside is =
    marked-first marks y ∙ ap (one_if (mark_at marks 0)) (sym is) ∙ ap (λ before. before ++ one_if (mark_at marks 0) x) (sym (marked-none marks))
marked-more [] (y ∷ xs) (suc i) x inside is = refl
marked-more (true ∷ marks) (y ∷ xs) (suc i) x inside is = ap (λ rest. y ∷ rest) (marked-more marks xs i x (omega (arith, inside)) is)
marked-more (false ∷ marks) (y ∷ xs) (suc i) x inside is = marked-more marks xs i x (omega (arith, inside)) is

next-place : (i : ℕ) → suc i ≡ i + 1
next-place i = omega arith

sum-if : {A : Type 0} (f : A → ℕ) (here : Bool) (x : A) → sum_by f (one_if here x) ≡ (if here then f x else 0)
sum-if f true x = omega arith
sum-if f false x = refl

flat-if : {A B : Type 0} (f : A → List B) (here : Bool) (x : A) → flat_map f (one_if here x) ≡ (if here then f x else [])
flat-if f true x = append-nil (f x)
flat-if f false x = refl

capped-sum : (a b : ℕ) → min (capped a + capped b) 18446744073709551615 ≡ capped (a + b)
capped-sum a b = omega arith

-- the size of the marked items up to one more
pub size-more : {A : Type 0} (f : A → ℕ) (marks : List Bool) (xs : List A) (i : ℕ) (x : A) → i < length xs → x ≡ get_or xs i x →
    min (capped (sum_by f (marked marks (take i xs))) + capped (if mark_at marks i then f x else 0)) 18446744073709551615 ≡ capped (sum_by f (marked marks (take (i + 1) xs)))
size-more f marks xs i x inside is =
    capped-sum (sum_by f (marked marks (take i xs))) _
    ∙ ap capped
    (ap (λ n. sum_by f (marked marks (take i xs)) + n) (sym (sum-if f (mark_at marks i) x))
    ∙ sym (sum_by-append f (marked marks (take i xs)) (one_if (mark_at marks i) x))
    ∙ ap (sum_by f) (sym (marked-more marks xs i x inside is) ∙ ap (λ n. marked marks (take n xs)) (next-place i)))

-- what is made of the marked items up to one more
pub flat-more : {A B : Type 0} (f : A → List B) (marks : List Bool) (xs : List A) (i : ℕ) (x : A) → i < length xs → x ≡ get_or xs i x →
    flat_map f (marked marks (take i xs)) ++ (if mark_at marks i then f x else []) ≡ flat_map f (marked marks (take (i + 1) xs))
flat-more f marks xs i x inside is =
    ap (λ ys. flat_map f (marked marks (take i xs)) ++ ys) (sym (flat-if f (mark_at marks i) x))
    ∙ sym (flat_map-append f (marked marks (take i xs)) (one_if (mark_at marks i) x))
    ∙ ap (flat_map f) (sym (marked-more marks xs i x inside is) ∙ ap (λ n. marked marks (take n xs)) (next-place i))
