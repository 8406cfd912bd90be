-- The end of a text: its last line, the tokens from a place on, and that none is left.
use Rattle.std.proofs.Common.{◌≡◌, ℕ, suc, ◌-◌, ◌<◌, ◌≤◌, ◌==◌, true, false, List, [], ◌∷◌, Ok, Err, arith, ap, drop, length, refl, sym, ◌∙◌}
use Rattle.std.proofs.lemmas.Bool.Decides.{nat_tests}
use Rattle.std.specs.Prelude.{fold}
use Rattle.ir_words.specs.Classes.{head_line}
use Rattle.ir_words.specs.Lexemes.{Lexeme}
use Rattle.ir_rules.specs.Reading.{ended, read_all}
use Rattle.ir_rules.specs.Rules.{Rule, ◌>>=◌}

abbrev pub later_line : ℕ → List Lexeme → ℕ
later_line line ts = fold (λ (line : ℕ) (t : Lexeme). t.line) line ts

some : (n : ℕ) → (suc n == 0) ≡ false
some n = grind (arith, nat_tests)

none_of_some : (n : ℕ) → (suc n == 0) ≡ true → ⊥
none_of_some n e = clash (sym (some n) ∙ e)
  where
    clash : false ≡ true → ⊥
    clash f = absurd (cc)

pub line_step : (line next : ℕ) (ts after : List Lexeme) → (length ts == 0) ≡ false → next ≡ head_line ts → after ≡ drop 1 ts → later_line next after ≡ later_line line ts
line_step line next ts after e n a = ap (λ k. later_line k after) n ∙ ap (λ l. later_line (head_line ts) l) a ∙ go line ts e
  where
    go : (line : ℕ) (ts : List Lexeme) → (length ts == 0) ≡ false → later_line (head_line ts) (drop 1 ts) ≡ later_line line ts
    go line [] e = absurd (cc)
    go line (t ∷ ts) e = refl

pub line_end : (line : ℕ) (ts : List Lexeme) → (length ts == 0) ≡ true → line ≡ later_line line ts
line_end line [] e = refl
line_end line (t ∷ ts) e = absurd (none_of_some (length ts) e)

pub drop_step : (left : ℕ) (ts after : List Lexeme) → left < length ts → after ≡ drop 1 ts → drop (length after - left) after ≡ drop (length ts - left) ts
drop_step left ts after l a = ap (λ l. drop (length l - left) l) a ∙ go left ts l
  where
    place : (left n : ℕ) → left < suc n → suc n - left ≡ suc (n - left)
    place left n l = omega arith

    go : (left : ℕ) (ts : List Lexeme) → left < length ts → drop (length (drop 1 ts) - left) (drop 1 ts) ≡ drop (length ts - left) ts
    go left [] l = absurd (omega arith)
    go left (t ∷ ts) l = ap (λ n. drop n (t ∷ ts)) (sym (place left (length ts) l))

pub drop_end : (left : ℕ) (ts : List Lexeme) → length ts ≤ left → ts ≡ drop (length ts - left) ts
drop_end left ts l = ap (λ n. drop n ts) (sym place)
  where
    place : length ts - left ≡ 0
    place = omega arith

module _ {A : Type 0} (r : Rule A) where
  pub all_read : (ts rest : List Lexeme) (x : A) → r.read ts ≡ Ok (x, rest) → (length rest == 0) ≡ true → read_all r ts ≡ Ok x
  all_read ts [] x e l = ap (λ o. o >>= ended) e
  all_read ts (t ∷ rest) x e l = absurd (none_of_some (length rest) l)

  pub some_left : (ts rest : List Lexeme) (x : A) → r.read ts ≡ Ok (x, rest) → (length rest == 0) ≡ false → read_all r ts ≡ Err (length rest)
  some_left ts [] x e l = absurd (cc)
  some_left ts (t ∷ rest) x e l = ap (λ o. o >>= ended) e

  pub none_read : (ts : List Lexeme) (n : ℕ) → r.read ts ≡ Err n → read_all r ts ≡ Err n
  none_read ts n e = ap (λ o. o >>= ended) e
