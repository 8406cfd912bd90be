-- A gap is passed piece by piece.
use Rattle.std.proofs.Common.{◌≡◌, ℕ, ◌+◌, ◌<◌, ◌==◌, ◌||◌, not, Bool, true, false, List, [], ◌∷◌, ap, arith, cond, drop, sym, refl, ◌∙◌}
use Rattle.std.proofs.lemmas.Bool.{both_ways, eqb-true}
use Rattle.ir_lex.specs.Characters.{is_blank, run}
use Rattle.ir_lex.specs.Separated.{past_gap}
use Rattle.ir_lex.specs.Splitting.{gap_len}
use Rattle.ir_lex.specs.declared.class.Class.TheVariants.{Comment}
use Rattle.ir_lex.proofs.ReachesKinds.{drop_next}

past_comment : (bytes : List ℕ) → past_gap true bytes ≡ past_gap false (drop (run Comment bytes) bytes)
unfolding past_gap
past_comment [] = refl
past_comment (b ∷ bytes) = cases (b == 10) refl (past_comment bytes)
  where
    cases : (feed : Bool) → b == 10 ≡ feed → past_gap true bytes ≡ past_gap false (drop (run Comment bytes) bytes) → past_gap (not feed) bytes ≡ past_gap false (drop (cond (not feed) (1 + run Comment bytes) 0) (b ∷ bytes))
    cases true is rest = ap (λ x. past_gap false (x ∷ bytes)) (sym (eqb-true b 10 is))
    cases false is rest = rest ∙ ap (past_gap false) (sym (drop_next (run Comment bytes) b bytes))

whole_comment : (b : ℕ) (bytes : List ℕ) → b == 59 ≡ true → drop (run Comment (b ∷ bytes)) (b ∷ bytes) ≡ drop (run Comment bytes) bytes
whole_comment b bytes is =
    ap (λ x. drop (run Comment (x ∷ bytes)) (b ∷ bytes)) (eqb-true b 59 is) ∙ drop_next (run Comment bytes) b bytes

-- no blank begins a comment
no_blank : (b : ℕ) → b == 59 ≡ true → is_blank b ≡ false
no_blank b is = ap is_blank (eqb-true b 59 is)

pub past_piece : (bytes : List ℕ) → 0 < gap_len bytes → past_gap false bytes ≡ past_gap false (drop (gap_len bytes) bytes)
unfolding past_gap gap_len
past_piece [] some = refl
past_piece (b ∷ bytes) some = cases (is_blank b) (b == 59) refl refl some
  where
    cases : (blank comment : Bool) → is_blank b ≡ blank → b == 59 ≡ comment → 0 < cond blank 1 (cond comment (run Comment (b ∷ bytes)) 0)
        → cond (comment || blank) (past_gap comment bytes) (b ∷ bytes) ≡ past_gap false (drop (cond blank 1 (cond comment (run Comment (b ∷ bytes)) 0)) (b ∷ bytes))
    cases true true is_b is_c h = absurd (both_ways (is_blank b) (no_blank b is_c) is_b)
    cases true false is_b is_c h = refl
    cases false true is_b is_c h = past_comment bytes ∙ ap (past_gap false) (sym (whole_comment b bytes is_c))
    cases false false is_b is_c h = absurd (omega arith)

pub past_nothing : (bytes : List ℕ) → gap_len bytes ≡ 0 → past_gap false bytes ≡ bytes
unfolding past_gap gap_len
past_nothing [] none = refl
past_nothing (b ∷ bytes) none = cases (is_blank b) (b == 59) refl none
  where
    cases : (blank comment : Bool) → b == 59 ≡ comment → cond blank 1 (cond comment (run Comment (b ∷ bytes)) 0) ≡ 0 → cond (comment || blank) (past_gap comment bytes) (b ∷ bytes) ≡ b ∷ bytes
    cases true comment is h = absurd (omega arith)
    cases false true is h = absurd (omega (arith, h, ap (λ x. run Comment (x ∷ bytes)) (eqb-true b 59 is)))
    cases false false is h = refl
