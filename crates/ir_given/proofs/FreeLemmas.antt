-- The free ones of the first candidates, one more at a time.
use Rattle.std.proofs.Common.{◌≡◌, ◌∙◌, ℕ, ◌+◌, ◌-◌, ◌≤◌, zero, suc, Bool, true, false, cond, not, List, [], ◌∷◌, ◌++◌, length, map, take, refl, sym, ap, arith}
use Rattle.std.proofs.lemmas.List.{length-append, map-append, take_all}
use Rattle.std.proofs.lemmas.List.Elements.{filter-append}
use Rattle.std.proofs.lemmas.List.FromFn.{filter_of_map_range_with_len_more}
use Rattle.std.proofs.Math.Seq.{take-append_seam}
use Rattle.std.specs.List.{filter, list_any, range_with_len}
use Rattle.ir_ident.specs.Names.{same_name}
use Rattle.ir_ident.specs.declared.name.Name.{Name}
use Rattle.ir_ident.specs.declared.name.Name.TheVariants.{Named}
use Rattle.ir_given.specs.Given.{candidate, free_candidates, is_free}

turned : {A : Type 0} (b : Bool) (x y : A) → cond b x y ≡ cond (not b) y x
turned true x y = refl
turned false x y = refl

-- one more candidate, if it is free
pub free_more : (names : List Name) (k : ℕ) (taken : Bool) (old new : List (List ℕ)) → old ≡ free_candidates names k →
    taken ≡ list_any (same_name (Named (candidate k))) names → new ≡ old ++ cond taken [] (candidate k ∷ []) →
    new ≡ free_candidates names (k + 1)
free_more names k taken old new before test now =
    now
    ∙ ap (λ xs. xs ++ cond taken [] (candidate k ∷ [])) before
    ∙ ap (λ b. free_candidates names k ++ cond b [] (candidate k ∷ [])) test
    ∙ ap (λ xs. free_candidates names k ++ xs) (turned (list_any (same_name (Named (candidate k))) names) [] (candidate k ∷ []))
    ∙ sym (filter_of_map_range_with_len_more (is_free names) candidate 0 k k (omega arith))

-- at most one more
pub length_more : (old new : List (List ℕ)) (taken : Bool) (x : List ℕ) → new ≡ old ++ cond taken [] (x ∷ []) → length new ≤ length old + 1
length_more old new true x now = omega (arith, ap length now, length-append old [])
length_more old new false x now = omega (arith, ap length now, length-append old (x ∷ []))

range_split : (a k j b : ℕ) → a + k ≡ b → range_with_len a (k + j) ≡ range_with_len a k ++ range_with_len b j
range_split a zero j b is =
    let none : zero + j ≡ j = omega arith in
    let same : a ≡ b = omega arith in
    ap (range_with_len a) none ∙ ap (λ from. range_with_len from j) same
range_split a (suc k) j b is =
    let one : suc k + j ≡ suc (k + j) = omega arith in
    ap (range_with_len a) one ∙ ap (λ xs. a ∷ xs) (range_split (a + 1) k j b (omega arith))

free_split : (names : List Name) (k j : ℕ) →
    free_candidates names (k + j) ≡ free_candidates names k ++ filter (is_free names) (map candidate (range_with_len k j))
free_split names k j =
    ap (λ xs. filter (is_free names) (map candidate xs)) (range_split 0 k j k (omega arith))
    ∙ ap (filter (is_free names)) (map-append candidate (range_with_len 0 k) (range_with_len k j))
    ∙ filter-append (is_free names) (map candidate (range_with_len 0 k)) (map candidate (range_with_len k j))

-- the free ones of few candidates come first among those of more
pub free_first : (names : List Name) (k n count : ℕ) (found : List (List ℕ)) → k ≤ n → found ≡ free_candidates names k → length found ≡ count →
    found ≡ take count (free_candidates names n)
free_first names k n count found within is long =
    is
    ∙ sym (take-append_seam (free_candidates names k) rest)
    ∙ ap (λ m. take m (free_candidates names k ++ rest)) (sym (ap length is) ∙ long)
    ∙ ap (take count) (sym (free_split names k (n - k)))
    ∙ ap (λ m. take count (free_candidates names m)) (omega arith)
  where
    rest : List (List ℕ)
    rest = filter (is_free names) (map candidate (range_with_len k (n - k)))

-- all free ones, where they are few
pub free_all : (names : List Name) (k n count : ℕ) (found : List (List ℕ)) → k ≡ n → found ≡ free_candidates names k → length found ≤ count →
    found ≡ take count (free_candidates names n)
free_all names k n count found same is few =
    is ∙ ap (free_candidates names) same ∙ sym (take_all count (free_candidates names n) (omega (arith, ap length is, ap (λ m. length (free_candidates names m)) same)))
