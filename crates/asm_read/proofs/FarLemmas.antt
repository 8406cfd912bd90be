-- Lines that are out of the reach of their labels, among what was read and among statements.
use Rattle.std.proofs.Common.{◌≡◌, ◌<◌, ◌≤◌, ◌⊎◌, ◌∙◌, ◌+◌, ℕ, zero, suc, List, [], ◌∷◌, ◌++◌, Bool, true, false, Option, Some, None, All, map, inl, inr, refl, sym, ap, subst, arith, length, take, slice_index_or}
use Rattle.std.proofs.lemmas.Bool.{false≢true}
use Rattle.std.proofs.lemmas.List.{take_all, take-map}
use Rattle.std.proofs.lemmas.List.Elements.{All-head, All-tail}
use Rattle.rv_isa.specs.Statements.{statement_line}
use Rattle.rv_isa.specs.declared.statement.Statement.{Statement}
use Rattle.rv_isa.specs.declared.statement.Statement.TheVariants.{Text}
use Rattle.asm_line.specs.Statements.{IsStatement}
use Rattle.asm_read.specs.Checks.{AreRead, IsEnd, IsFirstRefused, IsMissed, IsRefused, IsRefusedThere, is_far_at, statements_in}
use Rattle.asm_read.specs.Labels.{is_far, is_some_and, misses, place, size}
use Rattle.asm_read.proofs.ReadLemmas.{reads_that}

pub split : (a b : ℕ) → a ≤ b → (a < b) ⊎ (a ≡ b)
split zero zero h = inr refl
split zero (suc b) h = inl (omega arith)
split (suc a) zero h = absurd (omega (arith, h))
split (suc a) (suc b) h = elim (split a b (omega (arith, h))) [
  | inl l ↦ inl (omega (arith, l))
  | inr e ↦ inr (ap suc e)
]

-- What all lines say.

statements_said : (statements : List Statement) → statements_in (map (λ s. Some s) statements) ≡ statements
statements_said [] = refl
statements_said (statement ∷ statements) = ap (λ more. statement ∷ more) (statements_said statements)

at_said : (p : Statement → Bool) → p Text ≡ false → (statements : List Statement) (k : ℕ) →
    is_some_and p (slice_index_or (map (λ s. Some s) statements) k None) ≡ p (slice_index_or statements k Text)
at_said p h [] k = sym h
at_said p h (statement ∷ statements) zero = refl
at_said p h (statement ∷ statements) (suc k) = at_said p h statements k

-- among these the same are far
pub far_said : (statements : List Statement) (k : ℕ) → is_far_at (map (λ s. Some s) statements) k ≡ is_far statements k
far_said statements k =
    let said : List (Option Statement) = map (λ s. Some s) statements in
    let before : statements_in (take k said) ≡ take k statements = ap (λ xs. statements_in xs) (take-map (λ s. Some s) k statements) ∙ statements_said (take k statements) in
    ap (λ xs. is_some_and (misses (place xs) (size (statements_in (take k said)))) (slice_index_or said k None)) (statements_said statements)
    ∙ ap (λ xs. is_some_and (misses (place statements) (size xs)) (slice_index_or said k None)) before
    ∙ at_said (misses (place statements) (size (take k statements))) refl statements k

-- a line that is far is there
pub far_within : (lines : List (Option Statement)) (k : ℕ) → is_far_at lines k ≡ true → k < length lines
far_within lines k h = there lines k (misses (place (statements_in lines)) (size (statements_in (take k lines)))) h
  where
    there : (xs : List (Option Statement)) (j : ℕ) (p : Statement → Bool) → is_some_and p (slice_index_or xs j None) ≡ true → j < length xs
    there [] j p e = absurd (false≢true e)
    there (x ∷ xs) zero p e = omega arith
    there (x ∷ xs) (suc j) p e = omega (arith, there xs j p e)

-- lines that say statements are read as these
pub readings_are : (statements : List Statement) (rest : List (List ℕ)) (readings : List (Option Statement)) → All IsStatement statements →
    AreRead (map statement_line statements ++ rest) readings → take (length statements) readings ≡ map (λ s. Some s) statements
readings_are [] rest readings all h = refl
readings_are (statement ∷ statements) rest [] all h = absurd h
readings_are (statement ∷ statements) rest (r ∷ readings) all h =
    ap (λ x. x ∷ take (length statements) readings)
    (reads_that (statement_line statement) r statement h.0 (All-head IsStatement statement statements all, refl))
    ∙ ap (λ xs. Some statement ∷ xs) (readings_are statements rest readings (All-tail IsStatement statement statements all) h.1)

-- What is refused first.

module _ (readings : List (Option Statement)) (whole : Bool) where
  abbrev pub IsAnyRefused : ℕ → Type 0
  IsAnyRefused k = IsRefused readings whole k ⊎ IsMissed readings whole k

  below_end : (one other : ℕ) → IsEnd readings whole one → IsEnd readings whole other → one < other → ⊥
  below_end one other h k l = elim h.ends [
    | inl e ↦ omega (arith, e, l, k.within)
    | inr refused ↦ k.fine one l refused
  ]

  end_once : (one other : ℕ) → IsEnd readings whole one → IsEnd readings whole other → one ≡ other
  end_once one other h k = by (nat_cases one other)
    where
      nat_cases : (a b : ℕ) → (a < b) ⊎ ((a ≡ b) ⊎ (b < a))
      nat_cases zero zero = inr (inl refl)
      nat_cases zero (suc b) = inl (omega arith)
      nat_cases (suc a) zero = inr (inr (omega arith))
      nat_cases (suc a) (suc b) = elim (nat_cases a b) [
        | inl l ↦ inl (omega (arith, l))
        | inr (inl e) ↦ inr (inl (ap suc e))
        | inr (inr l) ↦ inr (inr (omega (arith, l)))
      ]

      by : (one < other) ⊎ ((one ≡ other) ⊎ (other < one)) → one ≡ other
      by (inl l) = absurd (below_end one other h k l)
      by (inr (inl e)) = e
      by (inr (inr l)) = absurd (below_end other one k h l)

  module _ (end : ℕ) (h : IsEnd readings whole end) where
    missed_at : (k : ℕ) → IsMissed readings whole k → is_far_at (take end readings) k ≡ true
    missed_at k missed = subst (λ n. is_far_at (take n readings) k ≡ true) (end_once missed.0 end missed.1 h) missed.2

    -- a line that is far is the first, where none before it is
    pub far_is_first : (k : ℕ) → k < end → is_far_at (take end readings) k ≡ true → ((j : ℕ) → j < k → is_far_at (take end readings) j ≡ false) → IsFirstRefused readings whole k
    far_is_first k l far before = (inr (end, h, far), none)
      where
        none : (j : ℕ) → j < k → IsAnyRefused j → ⊥
        none j m (inl refused) = h.fine j (omega (arith, l, m)) refused
        none j m (inr missed) = false≢true (sym (before j m) ∙ missed_at j missed)

    none_missed : ((j : ℕ) → j < length (take end readings) → is_far_at (take end readings) j ≡ false) → (j : ℕ) → IsMissed readings whole j → ⊥
    none_missed near j missed =
        let far = missed_at j missed in
        false≢true (sym (near j (far_within (take end readings) j far)) ∙ far)

    -- or else the end is
    pub end_is_first : ((j : ℕ) → j < length (take end readings) → is_far_at (take end readings) j ≡ false) → IsRefused readings whole end → IsFirstRefused readings whole end
    end_is_first near refused = (inl refused, none)
      where
        none : (j : ℕ) → j < end → IsAnyRefused j → ⊥
        none j m (inl other) = h.fine j m other
        none j m (inr missed) = none_missed near j missed

    -- or else none
    pub none_is_refused : ((j : ℕ) → j < length (take end readings) → is_far_at (take end readings) j ≡ false) → ((k : ℕ) → IsRefused readings whole k → ⊥) → (k : ℕ) → IsAnyRefused k → ⊥
    none_is_refused near none k (inl refused) = none k refused
    none_is_refused near none k (inr missed) = none_missed near k missed

  -- where nothing is refused, no line is far
  pub all_near : ((k : ℕ) → IsAnyRefused k → ⊥) → (k : ℕ) → is_far_at readings k ≡ false
  all_near fine k = of (is_far_at readings k) refl
    where
      all : IsEnd readings whole (length readings)
      all = record { within = omega arith; fine = λ j l refused. fine j (inl refused); ends = inl refl }

      of : (b : Bool) → is_far_at readings k ≡ b → b ≡ false
      of false e = refl
      of true e = absurd (fine k (inr (length readings, all, ap (λ xs. is_far_at xs k) (take_all (length readings) readings (omega arith)) ∙ e)))

-- The answers of the search, over the lines before the end.
module _ (readings : List (Option Statement)) (whole : Bool) (end : ℕ) (h : IsEnd readings whole end) (first : List (Option Statement)) (is : first ≡ take end readings) where
  within_end : (xs : List (Option Statement)) (n k : ℕ) → k < length (take n xs) → k < n
  within_end xs zero k l = absurd (omega (arith, l))
  within_end [] (suc n) k l = absurd (omega (arith, l))
  within_end (x ∷ xs) (suc n) zero l = omega arith
  within_end (x ∷ xs) (suc n) (suc k) l = omega (arith, within_end xs n k (omega (arith, l)))

  pub far_answer : (at : ℕ) → at < length first → is_far_at first at ≡ true → ((k : ℕ) → k < at → is_far_at first k ≡ false) → IsFirstRefused readings whole at
  far_answer at l far before =
      far_is_first readings whole end h at (within_end readings end at (subst (λ xs. at < length xs) is l)) (subst (λ xs. is_far_at xs at ≡ true) is far)
      (λ k m. subst (λ xs. is_far_at xs k ≡ false) is (before k m))

  near_first : ((k : ℕ) → k < length first → is_far_at first k ≡ false) → (k : ℕ) → k < length (take end readings) → is_far_at (take end readings) k ≡ false
  near_first near k l = subst (λ xs. is_far_at xs k ≡ false) is (near k (subst (λ xs. k < length xs) (sym is) l))

  pub end_answer : ((k : ℕ) → k < length first → is_far_at first k ≡ false) → (refused : Bool) → IsRefusedThere readings whole end refused → refused ≡ true → IsFirstRefused readings whole end
  end_answer near true there e = end_is_first readings whole end h (near_first near) there
  end_answer near false there e = absurd (false≢true e)

  pub none_answer : ((k : ℕ) → k < length first → is_far_at first k ≡ false) → (refused : Bool) → IsRefusedThere readings whole end refused → refused ≡ false → (k : ℕ) → IsAnyRefused readings whole k → ⊥
  none_answer near false there e = none_is_refused readings whole end h (near_first near) there
  none_answer near true there e = absurd (false≢true (sym e))
