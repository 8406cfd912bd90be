-- Edges that are added one after the other.
use Rattle.std.proofs.Common.{◌≡◌, ◌≢◌, ◌∙◌, ℕ, zero, suc, ◌+◌, ◌<◌, Bool, true, false, nat_eq, List, [], ◌∷◌, ◌++◌, length, get_or, set, if◌then◌else◌, refl, sym, ap, arith, flat_map}
use Rattle.std.specs.List.{range_with_len}
use Rattle.std.proofs.lemmas.Grind.{flat_map-append}
use Rattle.std.proofs.lemmas.Bool.Decides.{nat_tests}
use Rattle.std.proofs.lemmas.List.{append-nil, get_or-set_other, get_or-set_same}

pub same_place : (a b : ℕ) → nat_eq a b ≡ true → a ≡ b
same_place a b h = grind (arith, nat_tests)

other_place : (a b : ℕ) → nat_eq a b ≡ false → b ≢ a
other_place a b h = grind (arith, nat_tests)

pushed_at : (all : List (List ℕ)) (to from place : ℕ) (is : Bool) → nat_eq to place ≡ is → place < length all →
    get_or (set all to (get_or all to [] ++ from ∷ [])) place [] ≡ get_or all place [] ++ (if is then from ∷ [] else [])
pushed_at all to from place true is inside =
    let same = same_place to place is in
    ap (λ p. get_or (set all to (get_or all to [] ++ from ∷ [])) p []) (sym same)
    ∙ get_or-set_same all to (get_or all to [] ++ from ∷ []) [] (omega (arith, same, inside))
    ∙ ap (λ p. get_or all p [] ++ from ∷ []) same
pushed_at all to from place false is inside =
    get_or-set_other all to place (get_or all to [] ++ from ∷ []) [] (other_place to place is) ∙ sym (append-nil (get_or all place []))

pub pushed : (all : List (List ℕ)) (to from place : ℕ) → place < length all →
    get_or (set all to (get_or all to [] ++ from ∷ [])) place [] ≡ get_or all place [] ++ (if nat_eq to place then from ∷ [] else [])
pushed all to from place inside = pushed_at all to from place (nat_eq to place) refl inside

range-more : (a n j : ℕ) → a + n ≡ j → range_with_len a (suc n) ≡ range_with_len a n ++ j ∷ []
range-more a zero j is = ap (λ k. k ∷ []) (omega (arith, is))
range-more a (suc n) j is = ap (λ rest. a ∷ rest) (range-more (a + 1) n j (omega (arith, is)))

-- what is made of the places up to one more
pub flat_more : {A : Type 0} (f : ℕ → List A) (n : ℕ) → flat_map f (range_with_len 0 n) ++ f n ≡ flat_map f (range_with_len 0 (n + 1))
flat_more f n =
    let next : suc n ≡ n + 1 = omega arith in
    ap (λ xs. flat_map f (range_with_len 0 n) ++ xs) (sym (append-nil (f n)))
    ∙ sym (flat_map-append f (range_with_len 0 n) (n ∷ []))
    ∙ ap (flat_map f) (sym (range-more 0 n n (omega arith)) ∙ ap (range_with_len 0) next)
