-- The longest prefix that is a text is read exactly, or to its first bad token.
use Rattle.std.proofs.Common.{◌≡◌, ◌<◌, ◌≤◌, ℕ, false, List, [], ◌∷◌, ◌++◌, Ok, Err, arith, ap, drop, length, refl, subst, sym, ◌∙◌}
use Rattle.std.proofs.lemmas.List.{append-nil, length-append}
use Rattle.std.specs.Prelude.{IfErr, IfOk}
use Rattle.std.specs.declared.result.Result.{Result}
use Rattle.ir_words.specs.Lexemes.{Lexeme}
use Rattle.ir_rules.specs.Laws.{Lawful, Splits, head}
use Rattle.ir_rules.specs.Reading.{Gives, IsLongestPrefix, Reads, StopsAt, ended}
use Rattle.ir_rules.specs.declared.end.End.{End}
use Rattle.ir_rules.specs.declared.end.End.TheVariants.{NoMemory, Bad}
use Rattle.ir_rules.specs.Rules.{Answer, Rule, ◌>>=◌, begins}
use Rattle.ir_rules.proofs.Whole.{read_all_reads}

-- of two prefixes, the longer one goes on from the shorter one
goes_on : {X : Type 0} (us rest ws vs : List X) → us ++ rest ≡ ws ++ vs → length vs < length rest → (more : List X) × (ws ≡ us ++ more) × (rest ≡ more ++ vs)
goes_on [] rest ws vs e l = (ws, refl, e)
goes_on (u ∷ us) rest [] vs e l = absurd (omega (arith, ap length e, length-append us rest, l))
goes_on {X} (u ∷ us) rest (w ∷ ws) vs e l = again (goes_on us rest ws vs (ap (drop 1) e) l)
  where
    first_same : u ≡ w
    first_same = cc

    again : (more : List X) × (ws ≡ us ++ more) × (rest ≡ more ++ vs) → (more : List X) × (w ∷ ws ≡ u ∷ us ++ more) × (rest ≡ more ++ vs)
    again m = (m.0, ap (λ l. w ∷ l) m.1 ∙ ap (λ x. x ∷ us ++ m.0) (sym first_same), m.2)

module _ {A : Type 0} (r : Rule A) (lr : Lawful r) where
  longest : (ts rest : List Lexeme) (x : A) → Splits r ts (Ok (x, rest)) → (ws vs : List Lexeme) (y : A) → ts ≡ ws ++ vs → r.text ws y → length vs < length rest → ⊥
  longest ts rest x w ws vs y e t l = over (goes_on w.0 rest ws vs (sym w.1 ∙ e) l)
    where
      left : Answer A → List Lexeme
      left (Ok p) = p.1
      left (Err n) = []

      none : (b : Lexeme) (m : List Lexeme) → b ∷ m ≡ [] → ⊥
      none b m e = cc

      clash : (m : List Lexeme) → 0 < length m → r.read ws ≡ Ok (x, m) → r.read ws ≡ Ok (y, []) → ⊥
      clash [] k p q = absurd (omega (arith, k))
      clash (b ∷ m) k p q = absurd (none b m (ap left (sym p ∙ q)))

      same_head : (m : List Lexeme) → rest ≡ m ++ vs → 0 < length m → head rest ≡ head m
      same_head [] is k = absurd (omega (arith, k))
      same_head (b ∷ m) is k = ap head is

      over : (more : List Lexeme) × (ws ≡ w.0 ++ more) × (rest ≡ more ++ vs) → ⊥
      over m =
          let some : 0 < length m.0 = omega (arith, l, ap length m.2, length-append m.0 vs) in
          clash m.0 some (ap r.read m.1 ∙ w.3 m.0 (same_head m.0 m.2 some)) (ap r.read (sym (append-nil ws)) ∙ lr.complete ws [] y t refl)

  pub prefix_is : (ts : List Lexeme) (x : A) (rest : List Lexeme) → r.read ts ≡ Ok (x, rest) → IsLongestPrefix r ts x rest
  prefix_is ts x rest e = go (subst (Splits r ts) e (lr.splits ts))
    where
      go : Splits r ts (Ok (x, rest)) → IsLongestPrefix r ts x rest
      go w = record {
        text = (w.0, w.1, w.2);
        longest = λ us vs y is t. at_most (length rest) (length vs) (longest ts rest x w us vs y is t);
      }
        where
          at_most : (m n : ℕ) → (n < m → ⊥) → m ≤ n
          at_most m n never = omega (arith, never)

  pub prefix_stops : (ts : List Lexeme) (n : ℕ) → r.read ts ≡ Err n → Reads r ts (Err n)
  prefix_stops ts n e = subst (Reads r ts) (ap (λ o. o >>= ended) e) (read_all_reads r lr ts)

  -- what a reader answers, in these words
  pub gives_prefix : (ts : List Lexeme) (result : Result (A × List Lexeme) End) → Gives (λ x. x) result (r.read ts) → IfOk result (λ p. IsLongestPrefix r ts p.0 p.1)
  gives_prefix ts (Ok p) g = prefix_is ts p.0 p.1 g
  gives_prefix ts (Err e) g = tt

  pub gives_stop : (ts : List Lexeme) (result : Result (A × List Lexeme) End) → Gives (λ x. x) result (r.read ts) → IfErr result (λ e. StopsAt r ts e)
  gives_stop ts (Ok p) g = tt
  gives_stop ts (Err NoMemory) g = tt
  gives_stop ts (Err (Bad n)) g = prefix_stops ts n g

  pub gives_only : (ts : List Lexeme) (result : Result (A × List Lexeme) End) → Gives (λ x. x) result (r.read ts)
      → (us vs : List Lexeme) (x : A) → ts ≡ us ++ vs → r.text us x → begins r.flast vs ≡ false → Gives (λ x. x) result (Ok (x, vs))
  gives_only ts result g us vs x e t stops = subst (Gives (λ x. x) result) (ap r.read e ∙ lr.complete us vs x t stops) g
