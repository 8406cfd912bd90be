-- Addresses given to variables one after the other.
use Rattle.std.proofs.Common.{◌≡◌, ◌∙◌, ◌++◌, ◌∷◌, ◌<◌, [], ℕ, zero, suc, ◌+◌, Bool, true, false, cond, None, Some, List, drop, get_or, length, refl, ap, sym, arith}
use Rattle.std.specs.Prelude.{slice_get}
use Rattle.std.proofs.lemmas.List.{append_assoc, drop_more}
use Rattle.ir_sem.specs.Addresses.{addresses_of, has_init}
use Rattle.ir_syntax.specs.declared.global.Global.{Global}

-- with one address given or none, what is left has its addresses from the addresses that are left
given_one : (g : Global) (globals : List Global) (addresses : List ℕ) (k a : ℕ) → cond (has_init g) (slice_get addresses k) None ≡ Some a →
    addresses_of (g ∷ globals) (drop k addresses) ≡ a ∷ addresses_of globals (drop (suc k) addresses)
given_one g globals [] k a found = by (has_init g) found
  where
    by : (t : Bool) → cond t (slice_get [] k) None ≡ Some a → addresses_of (g ∷ globals) (drop k []) ≡ a ∷ addresses_of globals (drop (suc k) [])
    by true found = absurd (cc)
    by false found = absurd (cc)
given_one g globals (x ∷ addresses) zero a found = by (has_init g) found
  where
    by : (t : Bool) → cond t (Some x) None ≡ Some a → cond t (x ∷ addresses_of globals addresses) (0 ∷ addresses_of globals (x ∷ addresses)) ≡ a ∷ addresses_of globals addresses
    by true found = cc
    by false found = absurd (cc)
given_one g globals (x ∷ addresses) (suc k) a found = given_one g globals addresses k a found

given_none : (g : Global) (globals : List Global) (addresses : List ℕ) (k : ℕ) → cond (has_init g) (slice_get addresses k) None ≡ None →
    addresses_of (g ∷ globals) (drop k addresses) ≡ 0 ∷ addresses_of globals (drop k addresses)
given_none g globals [] zero found = refl
given_none g globals [] (suc k) found = refl
given_none g globals (x ∷ addresses) zero found = by (has_init g) found
  where
    by : (t : Bool) → cond t (Some x) None ≡ None → cond t (x ∷ addresses_of globals addresses) (0 ∷ addresses_of globals (x ∷ addresses)) ≡ 0 ∷ addresses_of globals (x ∷ addresses)
    by true found = absurd (cc)
    by false found = refl
given_none g globals (x ∷ addresses) (suc k) found = given_none g globals addresses k found

module _ (globals : List Global) (i : ℕ) (d : Global) (within : i < length globals) (addresses : List ℕ) (k : ℕ) (done all : List ℕ)
    (so_far : done ++ addresses_of (drop i globals) (drop k addresses) ≡ all) where
  pub one_more : (a : ℕ) → cond (has_init (get_or globals i d)) (slice_get addresses k) None ≡ Some a →
      (done ++ a ∷ []) ++ addresses_of (drop (i + 1) globals) (drop (k + 1) addresses) ≡ all
  one_more a found =
      let next : k + 1 ≡ suc k = omega arith in
      ap (λ n. (done ++ a ∷ []) ++ addresses_of (drop (i + 1) globals) (drop n addresses)) next
      ∙ append_assoc done (a ∷ []) (addresses_of (drop (i + 1) globals) (drop (suc k) addresses))
      ∙ ap (λ rest. done ++ rest) (sym (ap (λ gs. addresses_of gs (drop k addresses)) (drop_more globals i d within)
      ∙ given_one (get_or globals i d) (drop (i + 1) globals) addresses k a found))
      ∙ so_far

  pub zero_more : cond (has_init (get_or globals i d)) (slice_get addresses k) None ≡ None →
      (done ++ 0 ∷ []) ++ addresses_of (drop (i + 1) globals) (drop k addresses) ≡ all
  zero_more found =
      append_assoc done (0 ∷ []) (addresses_of (drop (i + 1) globals) (drop k addresses))
      ∙ ap (λ rest. done ++ rest) (sym (ap (λ gs. addresses_of gs (drop k addresses)) (drop_more globals i d within)
      ∙ given_none (get_or globals i d) (drop (i + 1) globals) addresses k found))
      ∙ so_far
