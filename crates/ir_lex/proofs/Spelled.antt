-- What the lengths measure is spelled as its kind says.
use Rattle.std.proofs.Common.{◌≡◌, ℕ, zero, suc, ◌+◌, ◌<◌, inl, inr, ◌==◌, ◌&&◌, Bool, true, false, List, [], ◌∷◌, ◌++◌, ap, arith, cond, drop, get_or, length, subst, take, refl, ◌∙◌}
use Rattle.std.specs.List.{list_all, prefix_len}
use Rattle.std.proofs.lemmas.Bool.{and_from, and_parts, cases_lt, eqb-true}
use Rattle.std.proofs.lemmas.List.{get_or_past, take_more}
use Rattle.std.proofs.lemmas.List.Folds.{length-prefix_len}
use Rattle.std.proofs.lemmas.Grind.{get_or_after_one}
use Rattle.ir_lex.specs.Characters.{is_in, run}
use Rattle.ir_lex.specs.Lengths.{content_len, int_len, marked_len, minus_len, more_than, string_len}
use Rattle.ir_lex.specs.Spelling.{IsContent, IsInt, IsMarked, IsRun, IsString}
use Rattle.ir_lex.specs.declared.class.Class.{Class}
use Rattle.ir_lex.specs.declared.class.Class.TheVariants.{Digit, Name, Quoted}

pub run_passes : (p : ℕ → Bool) (bytes : List ℕ) → list_all p (take (prefix_len p bytes) bytes) ≡ true
run_passes p [] = refl
run_passes p (b ∷ bytes) = cases (p b) refl (run_passes p bytes)
  where
    next : 1 + prefix_len p bytes ≡ suc (prefix_len p bytes)
    next = omega arith

    cases : (t : Bool) → p b ≡ t → list_all p (take (prefix_len p bytes) bytes) ≡ true → list_all p (take (cond t (1 + prefix_len p bytes) 0) (b ∷ bytes)) ≡ true
    cases true is later = ap (λ k. list_all p (take k (b ∷ bytes))) next ∙ and_from (p b) (list_all p (take (prefix_len p bytes) bytes)) is later
    cases false is later = refl

pub run_is : (class : Class) (bytes : List ℕ) → 0 < run class bytes → IsRun class (take (run class bytes) bytes)
run_is class bytes h = record {
  some = omega (arith, h, length-prefix_len (is_in class) bytes);
  all = run_passes (is_in class) bytes;
}

pub guarded : (t : Bool) (n : ℕ) → 0 < cond t n 0 → (t ≡ true) × (cond t n 0 ≡ n)
guarded true n h = (refl, refl)
guarded false n h = absurd (omega arith)

pub unguarded : (t : Bool) (n : ℕ) → 0 < cond t 0 n → (t ≡ false) × (cond t 0 n ≡ n)
unguarded true n h = absurd (omega arith)
unguarded false n h = (refl, refl)

pub inside_at : (bytes : List ℕ) (i b : ℕ) → get_or bytes i 0 ≡ b → 0 < b → i < length bytes
inside_at bytes i b is some = elim (cases_lt i (length bytes)) [
  | inl inside ↦ inside
  | inr past ↦ absurd (omega (arith, get_or_past bytes i 0 past, is, some))
]

pub taken : (bytes : List ℕ) (b n : ℕ) → get_or bytes 0 0 ≡ b → 0 < b → take (1 + n) bytes ≡ b ∷ take n (drop 1 bytes)
taken [] b n is some = absurd (omega (arith, is, some))
taken (x ∷ bytes) b n is some = let next : 1 + n ≡ suc n = omega arith in ap (λ k. take k (x ∷ bytes)) next ∙ ap (λ y. y ∷ take n bytes) is

pub string_is : (bytes : List ℕ) → 0 < string_len bytes → IsString (take (string_len bytes) bytes)
unfolding string_len
string_is bytes h =
    let tail = drop 1 bytes in
    let n = run Quoted tail in
    let g = guarded (get_or bytes 0 0 == 34 && get_or bytes (1 + n) 0 == 34) (2 + n) h in
    let two : string_len bytes ≡ 1 + (n + 1) = omega (arith, g.1) in
    let both = and_parts (get_or bytes 0 0 == 34) (get_or bytes (1 + n) 0 == 34) g.0 in
    let here : get_or tail n 0 ≡ 34 = get_or_after_one bytes n 0 ∙ eqb-true _ _ both.1 in
    record {
      inner = take n tail;
      all = run_passes (is_in Quoted) tail;
      is = ap (λ k. take k bytes) two ∙ taken bytes 34 (n + 1) (eqb-true _ _ both.0) (omega arith)
          ∙ ap (λ xs. 34 ∷ xs) (take_more tail n 0 (inside_at tail n 34 here (omega arith)) ∙ ap (λ b. take n tail ++ b ∷ []) here);
    }

pub content_is : (bytes : List ℕ) → 0 < content_len bytes → IsContent (take (content_len bytes) bytes)
unfolding content_len
content_is bytes h = cases (string_len bytes == 0) refl h
  where
    cases : (t : Bool) → string_len bytes == 0 ≡ t → 0 < cond t (run Name bytes) (string_len bytes) → IsContent (take (cond t (run Name bytes) (string_len bytes)) bytes)
    cases true is some = inl (run_is Name bytes some)
    cases false is some = inr (string_is bytes some)

pub more_is : (k n : ℕ) → 0 < more_than k n → (0 < n) × (more_than k n ≡ k + n)
more_is k zero h = absurd (omega arith)
more_is k (suc n) h = (omega arith, (unguarded (suc n == 0) (k + suc n) h).1)

pub marked_is : (mark : ℕ) (bytes : List ℕ) → 0 < mark → 0 < marked_len mark bytes → IsMarked mark (take (marked_len mark bytes) bytes)
unfolding marked_len
marked_is mark bytes has h =
    let g = guarded (get_or bytes 0 0 == mark) (more_than 1 (content_len (drop 1 bytes))) h in
    let m = more_is 1 (content_len (drop 1 bytes)) (subst (λ k. 0 < k) g.1 h) in (
      take (content_len (drop 1 bytes)) (drop 1 bytes),
      content_is (drop 1 bytes) m.0,
      ap (λ k. take k bytes) (g.1 ∙ m.1) ∙ taken bytes mark (content_len (drop 1 bytes)) (eqb-true _ _ g.0) has,
    )

pub int_is : (bytes : List ℕ) → 0 < int_len bytes → IsInt (take (int_len bytes) bytes)
unfolding int_len minus_len
int_is bytes h = cases (get_or bytes 0 0 == 45) refl h
  where
    cases : (t : Bool) → get_or bytes 0 0 == 45 ≡ t → 0 < more_than (cond t 1 0) (run Digit (drop (cond t 1 0) bytes)) → IsInt (take (more_than (cond t 1 0) (run Digit (drop (cond t 1 0) bytes))) bytes)
    cases true is some =
        let m = more_is 1 (run Digit (drop 1 bytes)) some in (
          take (run Digit (drop 1 bytes)) (drop 1 bytes),
          run_is Digit (drop 1 bytes) m.0,
          inr (ap (λ k. take k bytes) m.1 ∙ taken bytes 45 (run Digit (drop 1 bytes)) (eqb-true _ _ is) (omega arith)),
        )
    cases false is some =
        let m = more_is 0 (run Digit bytes) some in
        let none : more_than 0 (run Digit bytes) ≡ run Digit bytes = omega (arith, m.1) in
        (take (run Digit bytes) bytes, run_is Digit bytes m.0, inl (ap (λ k. take k bytes) none))
