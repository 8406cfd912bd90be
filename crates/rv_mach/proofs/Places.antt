-- Steps whose addresses differ are no more than the instructions.
use Rattle.std.proofs.Common.{◌≡◌, ◌∙◌, ap, sym, refl, ℕ, suc, zero, ◌-◌, ◌/◌, ◌≤◌, ◌<◌, Bool, true, false, ◌||◌, List, [], ◌∷◌, All, length, map, arith}
use Rattle.std.specs.Prelude.{nat_eq}
use Rattle.std.specs.List.{IsDistinct, list_any, AllByRecursion}
use Rattle.std.proofs.lemmas.Bool.Decides.{nat_tests}
use Rattle.std.proofs.lemmas.List.{length-map}
use Rattle.std.proofs.lemmas.List.Elements.{All-head, All-tail}
use Rattle.std.proofs.lemmas.Map.Steps.{length-le_from_distinct_below}
use Rattle.rv_mach.specs.Layout.{image_start}
use Rattle.rv_mach.specs.State.{State}
use Rattle.rv_mach.specs.Code.{IsPlace, places}

-- which instruction of an image lies at an address
abbrev index_of : ℕ → ℕ
index_of address = (address - image_start) / 4

index-other : (count a b : ℕ) → IsPlace count a → IsPlace count b → nat_eq a b ≡ false → nat_eq (index_of a) (index_of b) ≡ false
index-other count a b first second other =
    let low = first.above in let four = first.aligned in let low' = second.above in let four' = second.aligned in
    grind (arith, nat_tests)

all-other : (count a : ℕ) (addresses : List ℕ) → IsPlace count a → All (IsPlace count) addresses → AllByRecursion (λ b. nat_eq a b ≡ false) addresses
    → AllByRecursion (λ j. nat_eq (index_of a) j ≡ false) (map index_of addresses)
all-other count a [] first all other = tt
all-other count a (b ∷ addresses) first all other = (
  index-other count a b first (All-head (IsPlace count) b addresses all) other.0,
  all-other count a addresses first (All-tail (IsPlace count) b addresses all) other.1,
)

distinct-indices : (count : ℕ) (addresses : List ℕ) → All (IsPlace count) addresses → IsDistinct nat_eq addresses → IsDistinct nat_eq (map index_of addresses)
unfolding IsDistinct
distinct-indices count [] all distinct = tt
distinct-indices count (a ∷ addresses) all distinct = (
  all-other count a addresses (All-head (IsPlace count) a addresses all) (All-tail (IsPlace count) a addresses all) distinct.0,
  distinct-indices count addresses (All-tail (IsPlace count) a addresses all) distinct.1,
)

index-below : (count a : ℕ) → IsPlace count a → index_of a < count
index-below count a is = let low = is.above in let high = is.below in omega arith

one-below : (count q : ℕ) (addresses : List ℕ) → All (IsPlace count) addresses → list_any (nat_eq q) (map index_of addresses) ≡ true → q < count
one-below count q [] all among = absurd (cc)
one-below count q (a ∷ addresses) all among =
    by_test (nat_eq q (index_of a)) refl (λ later. one-below count q addresses (All-tail (IsPlace count) a addresses all) later)
  where
    by_test : (b : Bool) → nat_eq q (index_of a) ≡ b → (list_any (nat_eq q) (map index_of addresses) ≡ true → q < count) → q < count
    by_test true is later =
        let here = index-below count a (All-head (IsPlace count) a addresses all) in
        let same : q ≡ index_of a = grind (arith, nat_tests) in omega arith
    by_test false is later = later (sym (ap (λ b. b || list_any (nat_eq q) (map index_of addresses)) is) ∙ among)

-- addresses of instructions that differ are no more than the instructions
pub places-few : (count : ℕ) (addresses : List ℕ) → All (IsPlace count) addresses → IsDistinct nat_eq addresses → length addresses ≤ count
places-few count addresses all distinct =
    let few = length-le_from_distinct_below (map index_of addresses) count (distinct-indices count addresses all distinct) (λ q among. one-below count q addresses all among) in
    let same = length-map addresses index_of in
    omega arith

length-places : (input : List ℕ) (n : ℕ) (m : State) → length (places input n m) ≡ n
length-places input zero m = refl
length-places input (suc n) m = ap suc (length-places input n m)

-- so is a stretch of a run in which no address comes again
pub steps-few : (input : List ℕ) (n count : ℕ) (m : State) → All (IsPlace count) (places input n m) → IsDistinct nat_eq (places input n m) → n ≤ count
steps-few input n count m all distinct =
    let few = places-few count (places input n m) all distinct in
    let same = length-places input n m in
    omega arith
