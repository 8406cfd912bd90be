-- Each unnamed item gets a name.
use Rattle.std.proofs.Common.{◌≡◌, ◌≢◌, ◌∙◌, ℕ, ◌+◌, ◌<◌, ◌≤◌, ◌^◌, Bool, true, false, ◌||◌, cond, List, [], ◌∷◌, count_by, length, map, refl, sym, ap, arith}
use Rattle.std.proofs.lemmas.Cmp.{nat_list_eq_equiv}
use Rattle.std.proofs.lemmas.List.{length-take-le}
use Rattle.std.proofs.lemmas.List.Elements.{All-take, filter_passes}
use Rattle.std.proofs.lemmas.List.Filters.{length-filter_both}
use Rattle.std.proofs.lemmas.List.FromFn.{length-map-range_with_len}
use Rattle.std.proofs.lemmas.List.Kept.{AllPairs-filter}
use Rattle.std.proofs.lemmas.List.Recursion.{is_count_by}
use Rattle.std.proofs.lemmas.Map.Made.{AllPairs-from_IsDistinct, IsDistinct-from_AllPairs, length-le_from_is_member}
use Rattle.std.proofs.lemmas.Slice.Eq.{bytes_eq-Decides}
use Rattle.std.specs.List.{All, IsDistinct, filter, list_any, range_with_len}
use Rattle.std.specs.Str.{bytes_eq}
use Rattle.indexmap.proofs.MapLemmas.{distinct-take}
use Rattle.ir_ident.specs.Names.{same_name}
use Rattle.ir_ident.specs.declared.name.Name.{Name}
use Rattle.ir_ident.specs.declared.name.Name.TheVariants.{Named, Unnamed, Implicit}
use Rattle.ir_given.proofs.CandidateLemmas.{candidates_differ}
use Rattle.ir_given.specs.Given.{candidate, free_candidates, given_to, is_free, is_unnamed}

-- the names that items have of their own
abbrev own_names : List Name → List (List ℕ)
own_names [] = []
own_names (Named bytes ∷ names) = bytes ∷ own_names names
own_names (Unnamed number ∷ names) = own_names names
own_names (Implicit ∷ names) = own_names names

abbrev unnamed : List Name → ℕ
unnamed [] = 0
unnamed (n ∷ names) = cond (is_unnamed n) (1 + unnamed names) (unnamed names)

own_or_none : (names : List Name) → length (own_names names) + unnamed names ≡ length names
own_or_none [] = omega arith
own_or_none (Named bytes ∷ names) = omega (arith, own_or_none names)
own_or_none (Unnamed number ∷ names) = omega (arith, own_or_none names)
own_or_none (Implicit ∷ names) = omega (arith, own_or_none names)

-- a name is taken if it is an item's own
taken : (names : List Name) (x : List ℕ) → list_any (same_name (Named x)) names ≡ list_any (bytes_eq x) (own_names names)
taken [] x = refl
taken (Named bytes ∷ names) x = ap (λ b. bytes_eq x bytes || b) (taken names x)
taken (Unnamed number ∷ names) x = taken names x
taken (Implicit ∷ names) x = taken names x

-- what is found among those that a filter keeps passes its test
one_found : (p : List ℕ → Bool) (q x : List ℕ) (same rest : Bool) → bytes_eq q x ≡ same → p x ≡ true → (rest ≡ true → p q ≡ true) →
    (same || rest) ≡ true → p q ≡ true
one_found p q x true rest is passes others among = ap p ((bytes_eq-Decides q x).0 is) ∙ passes
one_found p q x false rest is passes others among = others among

one_kept : (p : List ℕ → Bool) (q x : List ℕ) (kept : List (List ℕ)) (b : Bool) → p x ≡ b → (list_any (bytes_eq q) kept ≡ true → p q ≡ true) →
    list_any (bytes_eq q) (cond b (x ∷ kept) kept) ≡ true → p q ≡ true
one_kept p q x kept true is others among = one_found p q x (bytes_eq q x) (list_any (bytes_eq q) kept) refl is others among
one_kept p q x kept false is others among = others among

passes_test : (p : List ℕ → Bool) (xs : List (List ℕ)) (q : List ℕ) → list_any (bytes_eq q) (filter p xs) ≡ true → p q ≡ true
passes_test p [] q among = grind arith
passes_test p (x ∷ xs) q among = one_kept p q x (filter p xs) (p x) refl (passes_test p xs q) among

differ_kept : (p : List ℕ → Bool) (xs : List (List ℕ)) → IsDistinct bytes_eq xs → IsDistinct bytes_eq (filter p xs)
differ_kept p xs differ =
    IsDistinct-from_AllPairs bytes_eq-Decides (filter p xs) (AllPairs-filter ◌≢◌ p xs (AllPairs-from_IsDistinct bytes_eq-Decides xs differ))

-- no more candidates are taken than items have names of their own
few_taken : (names : List Name) (xs : List (List ℕ)) → IsDistinct bytes_eq xs →
    length (filter (λ x. list_any (same_name (Named x)) names) xs) ≤ length (own_names names)
few_taken names xs differ =
    length-le_from_is_member nat_list_eq_equiv (filter (λ x. list_any (same_name (Named x)) names) xs) (own_names names)
    (differ_kept (λ x. list_any (same_name (Named x)) names) xs differ)
    (λ q among. sym (taken names q) ∙ passes_test (λ x. list_any (same_name (Named x)) names) xs q among)

enough : (names : List Name) → length names < 2 ^ 64 → count_by is_unnamed names ≤ length (free_candidates names (length names))
enough names small =
    let xs = map candidate (range_with_len 0 (length names)) in
    omega (
      arith,
      few_taken names xs (candidates_differ (length names) small),
      own_or_none names,
      is_count_by unnamed is_unnamed refl (λ _ _. refl) names,
      length-filter_both (λ x. list_any (same_name (Named x)) names) (is_free names) (λ _. refl) xs,
      length-map-range_with_len candidate 0 (length names),
    )

-- there is a name for each unnamed item
pub given_count : (names : List Name) → length names < 2 ^ 64 → length (given_to names) ≡ count_by is_unnamed names
given_count names small = length-take-le (count_by is_unnamed names) (free_candidates names (length names)) (enough names small)

-- no two of them are one
pub given_differ : (names : List Name) → length names < 2 ^ 64 → IsDistinct bytes_eq (given_to names)
given_differ names small =
    distinct-take nat_list_eq_equiv (count_by is_unnamed names) (free_candidates names (length names))
    (differ_kept (is_free names) (map candidate (range_with_len 0 (length names))) (candidates_differ (length names) small))

-- no item has one of them
pub given_free : (names : List Name) → All (λ x. is_free names x ≡ true) (given_to names)
given_free names =
    All-take (λ x. is_free names x ≡ true) (count_by is_unnamed names) (free_candidates names (length names))
    (filter_passes (is_free names) (map candidate (range_with_len 0 (length names))))
