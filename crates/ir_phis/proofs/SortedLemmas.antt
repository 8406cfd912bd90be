-- Lists in order that have the same items, each as often, are one list.
use Rattle.std.proofs.Common.{◌≡◌, ◌∙◌, ℕ, suc, zero, ◌+◌, ◌<◌, ◌≤◌, Bool, true, false, ◌&&◌, nat_eq, nat_lt, List, [], ◌∷◌, ◌++◌, if◌then◌else◌, refl, sym, ap, subst, arith, flat_map}
use Rattle.std.specs.Prelude.{IsPermutation, cond}
use Rattle.std.specs.List.Sorted.{IsNonDecreasing}
use Rattle.std.proofs.Common.{true≢false}
use Rattle.std.specs.List.{list_all, range_with_len}
use Rattle.std.proofs.lemmas.Bool.Decides.{nat_tests}
use Rattle.std.proofs.lemmas.List.Sums.{sum_by-append, sum_by-cons}
use Rattle.std.proofs.lemmas.List.Sorted.{sum_by-IsPermutation}
use Rattle.ir_cfg.proofs.SeenLemmas.{and-left, and-right}
use Rattle.ir_phis.specs.Entries.{count, same_items}
use Rattle.ir_phis.specs.Predecessors.{edges_from}
use Rattle.ir_phis.specs.Rises.{Rises}

count-cons : (v x : ℕ) (xs : List ℕ) → count v (x ∷ xs) ≡ cond (nat_eq v x) 1 0 + count v xs
count-cons v x xs = sum_by-cons (λ y. cond (nat_eq v y) 1 0) x xs

zero-plus : (n : ℕ) → 0 + n ≡ n
zero-plus n = omega arith

pub same_place : (a b : ℕ) → nat_eq a b ≡ true → a ≡ b
same_place a b h = grind (arith, nat_tests)

self : (v : ℕ) → nat_eq v v ≡ true
self v = grind (arith, nat_tests)

other : (v x : ℕ) → v < x → nat_eq v x ≡ false
other v x h = grind (arith, nat_tests)

count-self : (v : ℕ) (xs : List ℕ) → count v (v ∷ xs) ≡ 1 + count v xs
count-self v xs = count-cons v v xs ∙ ap (λ is. cond is 1 0 + count v xs) (self v)

pub lower : (a b : ℕ) (xs : List ℕ) → a ≤ b → Rises b xs → Rises a xs
lower a b [] h r = r
lower a b (x ∷ xs) h r = (omega (arith, h, r.0), r.1)

count-below : (v limit : ℕ) (xs : List ℕ) → v < limit → Rises limit xs → count v xs ≡ 0
count-below v limit [] h r = refl
count-below v limit (x ∷ xs) h r =
    count-cons v x xs ∙ ap (λ is. cond is 1 0 + count v xs) (other v x (omega (arith, h, r.0))) ∙ zero-plus (count v xs) ∙ count-below v x xs (omega (arith, h, r.0)) r.1

one_more : (n : ℕ) → 1 + n ≡ 0 → ⊥
one_more n h = omega (arith, h)

-- two lists whose first items differ do not have the lower one equally often
apart : (x y : ℕ) (xs ys : List ℕ) → x < y → Rises y ys → count x (x ∷ xs) ≡ count x (y ∷ ys) → ⊥
apart x y xs ys h r same =
    one_more (count x xs) (sym (count-self x xs) ∙ same ∙ count-below x y (y ∷ ys) h (omega arith, r))

same_tail : (v x : ℕ) (xs ys : List ℕ) → count v (x ∷ xs) ≡ count v (x ∷ ys) → count v xs ≡ count v ys
same_tail v x xs ys h =
    let a = count-cons v x xs in
    let b = count-cons v x ys in
    omega (arith, a, b, h)

first_is : (x y : ℕ) (xs ys : List ℕ) (below above : Bool) → nat_lt x y ≡ below → nat_lt y x ≡ above →
    Rises x xs → Rises y ys → ((v : ℕ) → count v (x ∷ xs) ≡ count v (y ∷ ys)) →
    (Rises x ys → ((v : ℕ) → count v xs ≡ count v ys) → xs ≡ ys) → (x ∷ xs) ≡ (y ∷ ys)
first_is x y xs ys true above b a r s h rest = absurd (apart x y xs ys (grind (arith, nat_tests)) s (h x))
first_is x y xs ys false true b a r s h rest = absurd (apart y x ys xs (grind (arith, nat_tests)) r (sym (h y)))
first_is x y xs ys false false b a r s h rest =
    let same : x ≡ y = grind (arith, nat_tests) in
    let tails : xs ≡ ys = rest (subst (λ z. Rises z ys) (sym same) s) (λ v. same_tail v x xs ys (h v ∙ ap (λ z. count v (z ∷ ys)) (sym same))) in
    λ i. same i ∷ tails i

pub one_order : (limit : ℕ) (xs ys : List ℕ) → Rises limit xs → Rises limit ys → ((v : ℕ) → count v xs ≡ count v ys) → xs ≡ ys
one_order limit [] [] r s h = refl
one_order limit [] (y ∷ ys) r s h = absurd (one_more (count y ys) (sym (count-self y ys) ∙ sym (h y)))
one_order limit (x ∷ xs) [] r s h = absurd (one_more (count x xs) (sym (count-self x xs) ∙ h x))
one_order limit (x ∷ xs) (y ∷ ys) r s h = first_is x y xs ys (nat_lt x y) (nat_lt y x) refl refl r.1 s.1 h (λ s counts. one_order x xs ys r.1 s counts)

-- edges from a block, before those from later ones
edges-step : (from : ℕ) (is : Bool) (xs rest : List ℕ) → Rises from (xs ++ rest) → Rises from (((if is then from ∷ [] else []) ++ xs) ++ rest)
edges-step from true xs rest r = (omega arith, r)
edges-step from false xs rest r = r

edges-rise : (place from : ℕ) (successors : List ℕ) (rest : List ℕ) → Rises from rest → Rises from (edges_from place from successors ++ rest)
edges-rise place from [] rest r = r
edges-rise place from (to ∷ successors) rest r =
    edges-step from (nat_eq to place) (edges_from place from successors) rest (edges-rise place from successors rest r)

pub rise : (place a n : ℕ) (successors : ℕ → List ℕ) → Rises a (flat_map (λ from. edges_from place from (successors from)) (range_with_len a n))
rise place a zero successors = tt
rise place a (suc n) successors =
    edges-rise place a (successors a) _ (lower a (a + 1) _ (omega arith) (rise place (a + 1) n successors))

-- a list that does not fall
rises-sorted : (x : ℕ) (xs : List ℕ) → IsNonDecreasing (x ∷ xs) → Rises x xs
rises-sorted x [] h = tt
rises-sorted x (y ∷ xs) h =
    (h 0 1 0 (omega arith) (omega arith), rises-sorted y xs (λ i j d le lt. h (suc i) (suc j) d (omega (arith, le)) (omega (arith, lt))))

rises-all : (xs : List ℕ) → IsNonDecreasing xs → Rises 0 xs
rises-all [] h = tt
rises-all (x ∷ xs) h = (omega arith, rises-sorted x xs h)

zero_more : (n : ℕ) → n ≡ 0 → 0 + n ≡ 0
zero_more n h = omega (arith, h)

listed-step : (p : ℕ → Bool) (z v : ℕ) (zs : List ℕ) (is : Bool) → nat_eq v z ≡ is → (p z && list_all p zs) ≡ true → (count v (z ∷ zs) ≡ 0 → ⊥) →
    (list_all p zs ≡ true → (count v zs ≡ 0 → ⊥) → p v ≡ true) → p v ≡ true
listed-step p z v zs true is all some rest = ap p (same_place v z is) ∙ and-left (p z) _ all
listed-step p z v zs false is all some rest =
    rest (and-right (p z) _ all) (λ none. some (count-cons v z zs ∙ ap (λ b. cond b 1 0 + count v zs) is ∙ zero_more (count v zs) none))

listed : (p : ℕ → Bool) (zs : List ℕ) (v : ℕ) → list_all p zs ≡ true → (count v zs ≡ 0 → ⊥) → p v ≡ true
listed p [] v all some = absurd (some refl)
listed p (z ∷ zs) v all some = listed-step p z v zs (nat_eq v z) refl all some (λ all some. listed p zs v all some)

counts-by : (xs ys : List ℕ) (v : ℕ) (none : Bool) → nat_eq (count v (xs ++ ys)) 0 ≡ none → same_items xs ys ≡ true → count v xs ≡ count v ys
counts-by xs ys v true none h =
    let sum : count v (xs ++ ys) ≡ count v xs + count v ys = sum_by-append (λ y. cond (nat_eq v y) 1 0) xs ys in
    let is : count v (xs ++ ys) ≡ 0 = same_place _ 0 none in
    omega (arith, sum, is)
counts-by xs ys v false none h =
    same_place (count v xs) (count v ys)
    (listed (λ x. nat_eq (count x xs) (count x ys)) (xs ++ ys) v h (λ is. absurd (true≢false (sym (ap (λ n. nat_eq n 0) is) ∙ none))))

pub counts : (xs ys : List ℕ) → same_items xs ys ≡ true → (v : ℕ) → count v xs ≡ count v ys
counts xs ys h v = counts-by xs ys v (nat_eq (count v (xs ++ ys)) 0) refl h

all-of : (p : ℕ → Bool) (zs : List ℕ) → ((v : ℕ) → p v ≡ true) → list_all p zs ≡ true
all-of p [] h = refl
all-of p (z ∷ zs) h = ap (λ b. b && list_all p zs) (h z) ∙ all-of p zs h

pub items : (xs ys : List ℕ) → ((v : ℕ) → count v xs ≡ count v ys) → same_items xs ys ≡ true
items xs ys h = all-of _ (xs ++ ys) (λ v. ap (λ n. nat_eq (count v xs) n) (sym (h v)) ∙ self (count v xs))

answer : (named sorted from : List ℕ) (r s : Bool) → same_items named from ≡ s → (r ≡ true → sorted ≡ from) → (sorted ≡ from → r ≡ true) →
    IsPermutation named sorted → IsNonDecreasing sorted → Rises 0 from → r ≡ s
answer named sorted from true true is equal other p up r = refl
answer named sorted from false false is equal other p up r = refl
answer named sorted from true false is equal other p up r =
    sym (items named from (λ v. sym (sum_by-IsPermutation (λ y. cond (nat_eq v y) 1 0) named sorted p) ∙ ap (count v) (equal refl))) ∙ is
answer named sorted from false true is equal other p up r =
    other (one_order 0 sorted from (rises-all sorted up) r (λ v. sum_by-IsPermutation (λ y. cond (nat_eq v y) 1 0) named sorted p ∙ counts named from is v))

-- a list in order is another one exactly where they have the same items
pub same_order : (named sorted from : List ℕ) (r : Bool) → (r ≡ true → sorted ≡ from) → (sorted ≡ from → r ≡ true) →
    IsPermutation named sorted → IsNonDecreasing sorted → Rises 0 from → r ≡ same_items named from
same_order named sorted from r equal other p up rises = answer named sorted from r (same_items named from) refl equal other p up rises
