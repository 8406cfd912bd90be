-- Walks over the objects with those before each: sums of sizes, and lists with one part for each.
use Rattle.std.proofs.Common.{◌≡◌, ◌≤◌, ◌+◌, ℕ, min, List, [], ◌∷◌, ◌++◌, Some, take, drop, map, slice_get, ap, sym, ◌∙◌, arith, append_assoc, sum_by}
use Rattle.std.specs.List.{flat_map}
use Rattle.std.proofs.lemmas.List.Sums.{sum_by-append, sum_by-take-le}
use Rattle.std.proofs.lemmas.Grind.{flat_map-append}
use Rattle.obj_link.specs.Names.{with_before}
use Rattle.obj_link.proofs.Lists.{take_at, left_at}

pub sum_at : {A : Type 0} (f : A → ℕ) (xs : List A) (k : ℕ) (x : A) → slice_get xs k ≡ Some x → sum_by f (take (k + 1) xs) ≡ sum_by f (take k xs) + f x
sum_at f xs k x at =
    let whole : sum_by f (take (k + 1) xs) ≡ sum_by f (take k xs) + sum_by f (x ∷ []) = ap (sum_by f) (take_at xs k x at) ∙ sum_by-append f (take k xs) (x ∷ []) in
    omega arith

pub sum_at_le : {A : Type 0} (f : A → ℕ) (xs : List A) (k : ℕ) (x : A) → slice_get xs k ≡ Some x → sum_by f (take k xs) + f x ≤ sum_by f xs
sum_at_le f xs k x at =
    let step = sum_at f xs k x at in
    let bound : sum_by f (take (k + 1) xs) ≤ sum_by f xs = sum_by-take-le f xs (k + 1) in
    omega arith

-- a sum that stops at the greatest number
pub capped_sum : (size most sum more next : ℕ) → size ≡ min sum most → next ≡ sum + more → min (size + min more most) most ≡ min next most
capped_sum size most sum more next is whole = omega arith

-- one more part of a list with one element for each

pub map_at : {A B : Type 0} (f : List A × A → B) (made next : List B) (xs : List A) (k : ℕ) (x : A) (y : B) (all : List B)
    → slice_get xs k ≡ Some x → made ++ map f (with_before (take k xs) (drop k xs)) ≡ all
    → next ≡ made ++ y ∷ [] → y ≡ f (take k xs, x)
    → next ++ map f (with_before (take (k + 1) xs) (drop (k + 1) xs)) ≡ all
map_at f made next xs k x y all at left grown is =
    ap (λ w. w ++ map f (with_before (take (k + 1) xs) (drop (k + 1) xs))) grown
    ∙ append_assoc made (y ∷ []) (map f (with_before (take (k + 1) xs) (drop (k + 1) xs)))
    ∙ ap (λ z. made ++ z ∷ map f (with_before (take (k + 1) xs) (drop (k + 1) xs))) is
    ∙ sym (ap (λ w. made ++ map f w) (left_at xs k x at)) ∙ left

pub flat_map_at : {A B : Type 0} (f : List A × A → List B) (made next : List B) (xs : List A) (k : ℕ) (x : A) (all : List B)
    → slice_get xs k ≡ Some x → made ++ flat_map f (with_before (take k xs) (drop k xs)) ≡ all → next ≡ made ++ f (take k xs, x)
    → next ++ flat_map f (with_before (take (k + 1) xs) (drop (k + 1) xs)) ≡ all
flat_map_at f made next xs k x all at left is =
    ap (λ w. w ++ flat_map f (with_before (take (k + 1) xs) (drop (k + 1) xs))) is
    ∙ append_assoc made (f (take k xs, x)) (flat_map f (with_before (take (k + 1) xs) (drop (k + 1) xs)))
    ∙ sym (ap (λ w. made ++ flat_map f w) (left_at xs k x at)) ∙ left

-- one more part of a list whose elements become several each
pub nested_at : {A B C : Type 0} (g : B → List C) (f : List A × A → List B) (made next : List C) (xs : List A) (k : ℕ) (x : A) (all : List C)
    → slice_get xs k ≡ Some x → made ++ flat_map g (flat_map f (with_before (take k xs) (drop k xs))) ≡ all
    → next ≡ made ++ flat_map g (f (take k xs, x))
    → next ++ flat_map g (flat_map f (with_before (take (k + 1) xs) (drop (k + 1) xs))) ≡ all
nested_at g f made next xs k x all at left is =
    ap (λ w. w ++ flat_map g (flat_map f (with_before (take (k + 1) xs) (drop (k + 1) xs)))) is
    ∙ append_assoc made (flat_map g (f (take k xs, x))) (flat_map g (flat_map f (with_before (take (k + 1) xs) (drop (k + 1) xs))))
    ∙ ap (λ w. made ++ w) (sym (flat_map-append g (f (take k xs, x)) (flat_map f (with_before (take (k + 1) xs) (drop (k + 1) xs)))))
    ∙ sym (ap (λ w. made ++ flat_map g (flat_map f w)) (left_at xs k x at)) ∙ left
