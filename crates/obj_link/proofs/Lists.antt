-- Lemmas on lists: a place in a list, the first element, and what is left to walk.
use Rattle.std.proofs.Common.{◌≡◌, ◌<◌, ◌+◌, ◌||◌, ℕ, suc, zero, Bool, true, false, cond, List, [], ◌∷◌, ◌++◌, Option, Some, None, length, get_or, take, drop, map, filter, find, option_map, slice_get, refl, ap, sym, ◌∙◌, arith}
use Rattle.std.specs.List.{list_any, flat_map}
use Rattle.std.proofs.lemmas.Option.{slice_get_within, get_or_from_slice_get}
use Rattle.std.proofs.lemmas.List.Folds.{list_any-append}
use Rattle.std.proofs.Math.Seq.{drop-cons, take-suc}
use Rattle.obj_link.specs.Names.{with_before}

pub drop_at : {A : Type 0} (xs : List A) (k : ℕ) (x : A) → slice_get xs k ≡ Some x → drop k xs ≡ x ∷ drop (k + 1) xs
drop_at xs k x at =
    let within : k < length xs = slice_get_within xs k x at in
    let here : get_or xs k x ≡ x = get_or_from_slice_get xs k x x at in
    let more : suc k ≡ k + 1 = omega arith in
    drop-cons xs k x within ∙ ap (λ y. y ∷ drop (suc k) xs) here ∙ ap (λ n. x ∷ drop n xs) more

pub take_at : {A : Type 0} (xs : List A) (k : ℕ) (x : A) → slice_get xs k ≡ Some x → take (k + 1) xs ≡ take k xs ++ x ∷ []
take_at xs k x at =
    let within : k < length xs = slice_get_within xs k x at in
    let here : get_or xs k x ≡ x = get_or_from_slice_get xs k x x at in
    let more : k + 1 ≡ suc k = omega arith in
    ap (λ n. take n xs) more ∙ take-suc xs k x within ∙ ap (λ y. take k xs ++ y ∷ []) here

-- what is left from a place on, with what stands before it
pub left_at : {A : Type 0} (xs : List A) (k : ℕ) (x : A) → slice_get xs k ≡ Some x
    → with_before (take k xs) (drop k xs) ≡ (take k xs, x) ∷ with_before (take (k + 1) xs) (drop (k + 1) xs)
left_at xs k x at =
    ap (with_before (take k xs)) (drop_at xs k x at)
    ∙ ap (λ before. (take k xs, x) ∷ with_before before (drop (k + 1) xs)) (sym (take_at xs k x at))

-- a test that an element before the end passes
pub any_at : {A : Type 0} (test : A → Bool) (xs : List A) (k end : ℕ) (x : A) → slice_get xs k ≡ Some x → k < end → test x ≡ true → list_any test (take end xs) ≡ true
any_at test [] k end x at below is = cc
any_at test (y ∷ ys) k zero x at below is = absurd (omega arith)
any_at test (y ∷ ys) zero (suc end) x at below is =
    let same : y ≡ x = cc in
    ap (λ b. b || list_any test (take end ys)) (ap test same ∙ is)
any_at test (y ∷ ys) (suc k) (suc end) x at below is =
    ap (λ b. test y || b) (any_at test ys k end x at (omega arith) is) ∙ or_true (test y)
  where
    or_true : (b : Bool) → (b || true) ≡ true
    or_true true = refl
    or_true false = refl

-- a test that no element so far passes
pub none_at : {A : Type 0} (test : A → Bool) (xs : List A) (k : ℕ) (x : A) → slice_get xs k ≡ Some x → list_any test (take k xs) ≡ false → test x ≡ false → list_any test (take (k + 1) xs) ≡ false
none_at test xs k x at none is =
    ap (list_any test) (take_at xs k x at) ∙ list_any-append test (take k xs) (x ∷ []) ∙ ap (λ b. b || (test x || false)) none ∙ ap (λ b. b || false) is

pub first_empty : {A : Type 0} (xs : List A) → slice_get xs 0 ≡ None → xs ≡ []
first_empty [] is = refl
first_empty (x ∷ xs) is = cc

-- the first element of two lists in a row

pub first_some : {A : Type 0} (xs ys : List A) (x : A) → slice_get xs 0 ≡ Some x → slice_get (xs ++ ys) 0 ≡ Some x
first_some [] ys x is = cc
first_some (y ∷ xs) ys x is = is

pub first_none : {A : Type 0} (xs ys : List A) → slice_get xs 0 ≡ None → slice_get (xs ++ ys) 0 ≡ slice_get ys 0
first_none [] ys is = refl
first_none (y ∷ xs) ys is = cc

-- the first element that passes a test
pub first-map-filter : {A B : Type 0} (f : A → B) (test : A → Bool) (xs : List A) → slice_get (map f (filter test xs)) 0 ≡ option_map f (find test xs)
first-map-filter f test [] = refl
first-map-filter {A} {B} f test (x ∷ xs) = by_test (test x) (first-map-filter f test xs)
  where
    by_test : (b : Bool) → slice_get (map f (filter test xs)) 0 ≡ option_map f (find test xs)
        → slice_get (map f (cond b (x ∷ filter test xs) (filter test xs))) 0 ≡ option_map f (cond b (Some x) (find test xs))
    by_test true later = refl
    by_test false later = later

pub first-filter : {A : Type 0} (test : A → Bool) (xs : List A) → slice_get (filter test xs) 0 ≡ find test xs
first-filter test [] = refl
first-filter {A} test (x ∷ xs) = by_test (test x) (first-filter test xs)
  where
    by_test : (b : Bool) → slice_get (filter test xs) 0 ≡ find test xs
        → slice_get (cond b (x ∷ filter test xs) (filter test xs)) 0 ≡ cond b (Some x) (find test xs)
    by_test true later = refl
    by_test false later = later

-- A walk that looks for the first element of lists in a row: `all` is the first of all.

pub before_found : {A B : Type 0} (f : List A × A → List B) (xs : List A) (k : ℕ) (x : A) (y : B) (all : Option B)
    → slice_get xs k ≡ Some x → slice_get (flat_map f (with_before (take k xs) (drop k xs))) 0 ≡ all
    → slice_get (f (take k xs, x)) 0 ≡ Some y → Some y ≡ all
before_found f xs k x y all at left here =
    sym (first_some (f (take k xs, x)) (flat_map f (with_before (take (k + 1) xs) (drop (k + 1) xs))) y here)
    ∙ sym (ap (λ w. slice_get (flat_map f w) 0) (left_at xs k x at)) ∙ left

pub before_missed : {A B : Type 0} (f : List A × A → List B) (xs : List A) (k : ℕ) (x : A) (all : Option B)
    → slice_get xs k ≡ Some x → slice_get (flat_map f (with_before (take k xs) (drop k xs))) 0 ≡ all
    → slice_get (f (take k xs, x)) 0 ≡ None
    → slice_get (flat_map f (with_before (take (k + 1) xs) (drop (k + 1) xs))) 0 ≡ all
before_missed f xs k x all at left here =
    sym (first_none (f (take k xs, x)) (flat_map f (with_before (take (k + 1) xs) (drop (k + 1) xs))) here)
    ∙ sym (ap (λ w. slice_get (flat_map f w) 0) (left_at xs k x at)) ∙ left

pub plain_found : {A B : Type 0} (f : A → List B) (xs : List A) (k : ℕ) (x : A) (y : B) (all : Option B)
    → slice_get xs k ≡ Some x → slice_get (flat_map f (drop k xs)) 0 ≡ all
    → slice_get (f x) 0 ≡ Some y → Some y ≡ all
plain_found f xs k x y all at left here =
    sym (first_some (f x) (flat_map f (drop (k + 1) xs)) y here)
    ∙ sym (ap (λ w. slice_get (flat_map f w) 0) (drop_at xs k x at)) ∙ left

pub plain_missed : {A B : Type 0} (f : A → List B) (xs : List A) (k : ℕ) (x : A) (all : Option B)
    → slice_get xs k ≡ Some x → slice_get (flat_map f (drop k xs)) 0 ≡ all
    → slice_get (f x) 0 ≡ None → slice_get (flat_map f (drop (k + 1) xs)) 0 ≡ all
plain_missed f xs k x all at left here =
    sym (first_none (f x) (flat_map f (drop (k + 1) xs)) here)
    ∙ sym (ap (λ w. slice_get (flat_map f w) 0) (drop_at xs k x at)) ∙ left
