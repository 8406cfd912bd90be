-- A whole text is read exactly, or to its first bad token.
use Rattle.std.proofs.Common.{◌≡◌, ℕ, suc, ◌-◌, ◌<◌, Bool, true, false, List, [], ◌∷◌, ◌++◌, Ok, Err, arith, ap, append_assoc, length, refl, Some, subst, sym, take, ◌∙◌}
use Rattle.std.proofs.lemmas.List.{append-nil, length-append, take_at}
use Rattle.ir_words.specs.Lexemes.{Lexeme}
use Rattle.ir_rules.specs.Laws.{Lawful, Splits, head}
use Rattle.ir_rules.specs.Reading.{Begins, IsFirstBad, Reads, ended, read_all}
use Rattle.ir_rules.specs.Rules.{Answer, Rule, ◌>>=◌}

module _ {A : Type 0} (r : Rule A) (lr : Lawful r) where
  -- each text is read, so no text has two trees
  pub accepts : (ts : List Lexeme) (x : A) → r.text ts x → read_all r ts ≡ Ok x
  accepts ts x t = ap (λ us. r.read us >>= ended) (sym (append-nil ts)) ∙ ap (λ o. o >>= ended) (lr.complete ts [] x t refl)

  taken : (us bad ts : List Lexeme) → ts ≡ us ++ bad → take (length us) ts ≡ us
  taken us bad ts e = ap (take (length us)) e ∙ take_at us bad (length us) refl

  taken_more : (us : List Lexeme) (b : Lexeme) (bad ts : List Lexeme) → ts ≡ us ++ b ∷ bad → take (suc (length us)) ts ≡ us ++ b ∷ []
  taken_more us b bad ts e =
      ap (take (suc (length us))) (e ∙ sym (append_assoc us (b ∷ []) bad))
      ∙ take_at (us ++ b ∷ []) bad (suc (length us)) (omega (arith, length-append us (b ∷ [])))

  first_bad : (us bad ts : List Lexeme) → ts ≡ us ++ bad → Begins r us → ((vs : List Lexeme) → head bad ≡ head vs → (x : A) → r.text (us ++ vs) x → ⊥)
      → IsFirstBad r ts (length us)
  first_bad us bad ts e prefix never = record {
    within = omega (arith, ap length e, length-append us bad);
    before = subst (Begins r) (sym (taken us bad ts e)) prefix;
    bad = at bad e never;
    end = λ same x t. ends bad e never same x t;
  }
    where
      at : (bad : List Lexeme) → ts ≡ us ++ bad → ((vs : List Lexeme) → head bad ≡ head vs → (x : A) → r.text (us ++ vs) x → ⊥)
          → length us < length ts → Begins r (take (suc (length us)) ts) → ⊥
      at [] e never l w = absurd (omega (arith, l, ap length e, length-append us []))
      at (b ∷ bad) e never l w =
          let more : Begins r (us ++ b ∷ []) = subst (Begins r) (taken_more us b bad ts e) w in
          never (b ∷ more.0) refl more.1 (subst (λ l. r.text l more.1) (append_assoc us (b ∷ []) more.0) more.2)

      ends : (bad : List Lexeme) → ts ≡ us ++ bad → ((vs : List Lexeme) → head bad ≡ head vs → (x : A) → r.text (us ++ vs) x → ⊥)
          → length us ≡ length ts → (x : A) → r.text ts x → ⊥
      ends [] e never same x t = never [] refl x (subst (λ l. r.text l x) e t)
      ends (b ∷ bad) e never same x t = absurd (omega (arith, same, ap length e, length-append us (b ∷ bad)))

  stops_at : (us bad ts : List Lexeme) (n : ℕ) → ts ≡ us ++ bad → n ≡ length bad → Begins r us
      → ((vs : List Lexeme) → head bad ≡ head vs → (x : A) → r.text (us ++ vs) x → ⊥) → Reads r ts (Err n)
  stops_at us bad ts n e is prefix never = (
    omega (arith, is, ap length e, length-append us bad),
    subst (IsFirstBad r ts) (place) (first_bad us bad ts e prefix never),
  )
    where
      place : length us ≡ length ts - n
      place = omega (arith, is, ap length e, length-append us bad)

  reads : (ts : List Lexeme) (o : Answer A) → Splits r ts o → Reads r ts (o >>= ended)
  reads ts (Ok p) w = over p.0 p.1 w
    where
      over : (x : A) (rest : List Lexeme) → Splits r ts (Ok (x, rest)) → Reads r ts (ended (x, rest))
      over x [] w = subst (λ us. r.text us x) (sym (w.1 ∙ append-nil w.0)) w.2
      over x (t ∷ rest) w =
          stops_at w.0 (t ∷ rest) ts (suc (length rest)) w.1 refl ([], x, subst (λ us. r.text us x) (sym (append-nil w.0)) w.2)
          (λ vs h y m. clash vs h y (accepts (w.0 ++ vs) y m) (ap (λ o. o >>= ended) (w.3 vs h)))
        where
          clash : (vs : List Lexeme) → Some t ≡ head vs → (y : A) → read_all r (w.0 ++ vs) ≡ Ok y → read_all r (w.0 ++ vs) ≡ ended (x, vs) → ⊥
          clash [] h y p q = absurd (cc)
          clash (v ∷ vs) h y p q = absurd (cc)
  reads ts (Err n) w =
      stops_at w.0 w.1 ts n w.4 w.5 (w.2, w.3, w.6) (λ vs h y m. clash vs y (accepts (w.0 ++ vs) y m) (ap (λ o. o >>= ended) (w.7 vs h)))
    where
      clash : (vs : List Lexeme) (y : A) → read_all r (w.0 ++ vs) ≡ Ok y → read_all r (w.0 ++ vs) ≡ Err (length vs) → ⊥
      clash vs y p q = absurd (cc)

  -- the tree of the whole text, or its first bad token
  pub read_all_reads : (ts : List Lexeme) → Reads r ts (read_all r ts)
  read_all_reads ts = reads ts (r.read ts) (lr.splits ts)

  -- what is read of a rule that is not empty leaves fewer tokens
  pub read_shorter : r.nullable ≡ false → (ts : List Lexeme) (p : A × List Lexeme) → r.read ts ≡ Ok p → length p.1 < length ts
  read_shorter some ts p e = go p (subst (Splits r ts) e (lr.splits ts))
    where
      clash : (e : Bool) → e ≡ true → e ≡ false → ⊥
      clash e p q = cc

      len : (us rest : List Lexeme) (x : A) → r.text us x → ts ≡ us ++ rest → length rest < length ts
      len [] rest x t is = absurd (clash r.nullable (lr.may_be_empty x t) some)
      len (u ∷ us) rest x t is = omega (arith, ap length is, length-append us rest)

      go : (p : A × List Lexeme) → Splits r ts (Ok p) → length p.1 < length ts
      go p w = len w.0 p.1 p.0 w.2 w.1
