-- Faults of names, a site after the other.
use Rattle.std.proofs.Common.{◌≡◌, ◌∙◌, ℕ, ◌+◌, ◌<◌, ◌≤◌, arith, cond, Bool, true, false, ◌&&◌, List, [], ◌∷◌, ◌++◌, length, take, get_or, flat_map, Option, sym, ap}
use Rattle.std.proofs.lemmas.List.{append_assoc, append-nil}
use Rattle.std.proofs.lemmas.List.Filters.{length-filter_more}
use Rattle.ir_names.proofs.Lines.{least_append, take_more}
use Rattle.ir_names.specs.Faults.{is_other, line_if, number_fault, number_faults, number_faults_after}
use Rattle.ir_numbers.specs.Unnamed.{is_counted, is_unnamed, unnamed_in}
use Rattle.ir_names.specs.Least.{earlier_of, least}
use Rattle.ir_entities.specs.Sites.{Site}

number_snoc : (before sites : List Site) (s : Site) → number_faults_after before (sites ++ s ∷ []) ≡ number_faults_after before sites ++ number_fault (before ++ sites) s
number_snoc before [] s = append-nil (number_fault before s) ∙ ap (λ b. number_fault b s) (sym (append-nil before))
number_snoc before (x ∷ sites) s =
    ap (λ rest. number_fault before x ++ rest)
    (number_snoc (before ++ x ∷ []) sites s
    ∙ ap (λ b. number_faults_after (before ++ x ∷ []) sites ++ number_fault b s) (append_assoc before (x ∷ []) sites))
    ∙ sym (append_assoc (number_fault before x) (number_faults_after (before ++ x ∷ []) sites) (number_fault (before ++ x ∷ sites) s))

-- one more site
pub number_more : (sites : List Site) (i : ℕ) (s : Site) (first here : Option ℕ) (next : ℕ) (fault : Bool) → i < length sites → s ≡ get_or sites i s →
    first ≡ least (number_faults (take i sites)) → next ≡ unnamed_in (take i sites) →
    fault ≡ (is_counted s.0 && is_other next s.1.name) → here ≡ least (line_if fault s) →
    earlier_of first here ≡ least (number_faults (take (i + 1) sites))
number_more sites i s first here next fault inside is before count test now =
    let fits : here ≡ least (number_fault (take i sites) s) =
    now ∙ ap (λ b. least (line_if b s)) (test ∙ ap (λ n. is_counted s.0 && is_other n s.1.name) count) in
    (λ k. earlier_of (before k) (fits k))
    ∙ sym (least_append (number_faults (take i sites)) (number_fault (take i sites) s))
    ∙ ap least (sym (number_snoc [] (take i sites) s))
    ∙ ap (λ ss. least (number_faults ss)) (sym (take_more sites i s inside is))

-- the faults of numbers and of uses, where these are known as the sites of what is defined say
pub both : {A : Type 0} (sites : List Site) (faults : (Site → Bool) → A → List ℕ) (xs : List A) (known at : Site → Bool) (numbers used : Option ℕ) →
    numbers ≡ least (number_faults sites) → ((s : Site) → known s ≡ at s) → used ≡ least (flat_map (faults known) xs) →
    earlier_of numbers used ≡ least (number_faults sites ++ flat_map (faults at) xs)
both sites faults xs known at numbers used nn same us =
    let all : known ≡ at = λ k s. same s k in
    (λ k. earlier_of (nn k) ((us ∙ ap (λ f. least (flat_map (faults f) xs)) all) k)) ∙ sym (least_append (number_faults sites) (flat_map (faults at) xs))

-- one more site is counted, if it has no name of its own
pub count_more : (sites : List Site) (i : ℕ) (s : Site) (next : ℕ) (one : ℕ) → i < length sites → s ≡ get_or sites i s → next ≡ unnamed_in (take i sites) →
    one ≡ cond (is_unnamed s) 1 0 → (next + one ≡ unnamed_in (take (i + 1) sites)) × (one ≤ 1)
count_more sites i s next one inside is count value =
    let here : one ≡ cond (is_unnamed (get_or sites i s)) 1 0 = value ∙ ap (λ x. cond (is_unnamed x) 1 0) is in
    ((λ k. count k + here k) ∙ sym (length-filter_more is_unnamed sites i s inside), at_most (is_unnamed s) one value)
  where
    at_most : (b : Bool) (n : ℕ) → n ≡ cond b 1 0 → n ≤ 1
    at_most true n e = omega (arith, e)
    at_most false n e = omega (arith, e)
