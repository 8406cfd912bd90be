-- A text of a rule that has begun and is not whole is not read, where it goes on with a bad token.
use Rattle.std.proofs.Common.{◌≡◌, ℕ, List, [], ◌∷◌, ◌++◌, Ok, Err, ap, append_assoc, drop, inl, inr, refl, subst, sym, ◌∙◌}
use Rattle.std.specs.Prelude.{◌⊎◌}
use Rattle.std.proofs.lemmas.List.{append-nil}
use Rattle.ir_words.specs.Lexemes.{Lexeme}
use Rattle.ir_rules.specs.Laws.{Lawful, Splits, head}
use Rattle.ir_rules.specs.Reading.{Begins}
use Rattle.ir_rules.specs.Rules.{Answer, Rule}

-- two prefixes of the same tokens: the second one is longer, or the first one goes on from it
abbrev Longer : List Lexeme → List Lexeme → List Lexeme → List Lexeme → Type 0
Longer us bs ws rest = (c : Lexeme) × (more : List Lexeme) × (ws ≡ us ++ c ∷ more) × (bs ≡ c ∷ more ++ rest)

abbrev GoesOn : List Lexeme → List Lexeme → List Lexeme → List Lexeme → Type 0
GoesOn us bs ws rest = (more : List Lexeme) × (us ≡ ws ++ more) × (rest ≡ more ++ bs)

compared : (us bs ws rest : List Lexeme) → us ++ bs ≡ ws ++ rest → Longer us bs ws rest ⊎ GoesOn us bs ws rest
compared us bs [] rest e = inr (us, refl, sym e)
compared [] bs (w ∷ ws) rest e = inl (w, ws, refl, e)
compared (u ∷ us) bs (w ∷ ws) rest e = again (compared us bs ws rest (ap (drop 1) e))
  where
    same : u ≡ w
    same = cc

    again : Longer us bs ws rest ⊎ GoesOn us bs ws rest → Longer (u ∷ us) bs (w ∷ ws) rest ⊎ GoesOn (u ∷ us) bs (w ∷ ws) rest
    again (inl l) = inl (l.0, l.1, ap (λ l. w ∷ l) l.2 ∙ ap (λ v. v ∷ us ++ l.0 ∷ l.1) (sym same), l.3)
    again (inr g) = inr (g.0, ap (λ l. u ∷ l) g.1 ∙ ap (λ v. v ∷ ws ++ g.0) same, g.2)

module _ {A : Type 0} (r : Rule A) (lr : Lawful r) (us : List Lexeme) (b : Lexeme) (bad : List Lexeme)
    (begun : Begins r us) (unended : (x : A) → r.text us x → ⊥) (is_bad : Begins r (us ++ b ∷ []) → ⊥) where
  -- no longer text is read
  longer : (ws rest : List Lexeme) (x : A) → r.text ws x → Longer us (b ∷ bad) ws rest → ⊥
  longer ws rest x t l = is_bad (l.1, x, subst (λ l. r.text l x) (l.2 ∙ ap (λ c. us ++ c ∷ l.1) same ∙ sym (append_assoc us (b ∷ []) l.1)) t)
    where
      same : l.0 ≡ b
      same = cc

  -- no shorter one is read, since the text goes on from it
  shorter : (ws rest more : List Lexeme) (x : A) → r.text ws x → ((vs : List Lexeme) → head rest ≡ head vs → r.read (ws ++ vs) ≡ Ok (x, vs))
      → us ≡ ws ++ more → rest ≡ more ++ b ∷ bad → ⊥
  shorter ws rest [] x t on is from = unended x (subst (λ l. r.text l x) (sym (is ∙ append-nil ws)) t)
  shorter ws rest (m ∷ more) x t on is from = clash (sym (on (m ∷ more ++ begun.0) (ap head from)) ∙ ap r.read place ∙ lr.complete (us ++ begun.0) [] begun.1 begun.2 refl)
    where
      rest_of : Answer A → List Lexeme
      rest_of (Ok p) = p.1
      rest_of (Err n) = []

      none : (t : Lexeme) (ts : List Lexeme) → t ∷ ts ≡ [] → ⊥
      none t ts e = cc

      clash : ◌≡◌ {A = Answer A} (Ok (x, m ∷ more ++ begun.0)) (Ok (begun.1, [])) → ⊥
      clash e = none m (more ++ begun.0) (ap rest_of e)

      place : ws ++ (m ∷ more ++ begun.0) ≡ (us ++ begun.0) ++ []
      place = sym (append_assoc ws (m ∷ more) begun.0) ∙ ap (λ l. l ++ begun.0) (sym is) ∙ sym (append-nil (us ++ begun.0))

  not_read : (p : A × List Lexeme) (w : Splits r (us ++ b ∷ bad) (Ok p)) → Longer us (b ∷ bad) w.0 p.1 ⊎ GoesOn us (b ∷ bad) w.0 p.1 → ⊥
  not_read p w (inl l) = longer w.0 p.1 p.0 w.2 l
  not_read p w (inr g) = shorter w.0 p.1 g.0 p.0 w.2 w.3 g.1 g.2

  pub unended_stops : (n : ℕ) × (r.read (us ++ b ∷ bad) ≡ Err n)
  unended_stops = go (r.read (us ++ b ∷ bad)) refl (lr.splits (us ++ b ∷ bad))
    where
      go : (o : Answer A) → r.read (us ++ b ∷ bad) ≡ o → Splits r (us ++ b ∷ bad) o → (n : ℕ) × (r.read (us ++ b ∷ bad) ≡ Err n)
      go (Ok p) e w = absurd (not_read p w (compared us (b ∷ bad) w.0 p.1 w.1))
      go (Err n) e w = (n, e)
