-- The small rules keep the laws.
use Rattle.std.proofs.Common.{◌≡◌, ℕ, Bool, true, false, List, [], ◌∷◌, ◌++◌, Ok, Err, Some, None, ap, is_some, refl, sym, ◌∙◌, if◌then◌else◌}
use Rattle.std.specs.Prelude.{Option}
use Rattle.ir_words.specs.Classes.{class_of, head_line}
use Rattle.ir_words.specs.Lexemes.{Lexeme}
use Rattle.ir_words.specs.declared.class.Class.{Class}
use Rattle.ir_rules.specs.Laws.{Lawful, Splits, head}
use Rattle.ir_rules.specs.Leaves.{ending, flag, leading, leaf, lined, means, of_class, with_line}
use Rattle.ir_rules.specs.Rules.{Answer, Rule, ◌>>=◌, apart, has, is_word, option, seq, word}
use Rattle.ir_rules.proofs.Derived.{option_lawful}
use Rattle.ir_rules.proofs.Laws.{made_lawful, seq_lawful, token_lawful, word_lawful}

-- t is a token that has a tree
pub leaf_lawful : {A : Type 0} (cs : List Class) (f : List ℕ → Option A) (t : Lexeme) (x : A) → of_class cs f (class_of t) t.text ≡ Some x → Lawful (leaf cs f)
leaf_lawful {A} cs f t x k = token_lawful cs (of_class cs f) (λ c text y h. known c text y (has cs c) refl h) t x k
  where
    known : (c : Class) (text : List ℕ) (y : A) (b : Bool) → has cs c ≡ b → (if b then f text else None) ≡ Some y → has cs c ≡ true
    known c text y true e h = e
    known c text y false e h = absurd (cc)

pub means_lawful : {A : Type 0} (class : Class) (x : A) (t : Lexeme) → is_word class (class_of t) t.text ≡ Some tt → has (class ∷ []) class ≡ true → Lawful (means class x)
means_lawful {A} class x t k e = made_lawful (λ (u : Unit {0}). x) (word class) (word_lawful class t k e)

pub flag_lawful : (class : Class) (t : Lexeme) → is_word class (class_of t) t.text ≡ Some tt → has (class ∷ []) class ≡ true → Lawful (flag class)
flag_lawful class t k e =
    made_lawful (λ (o : Option (Unit {0})). is_some o) (option (word class)) (option_lawful (word class) (word_lawful class t k e) refl)

pub ending_lawful : {A B : Type 0} (a : Rule A) (b : Rule B) → Lawful a → Lawful b → apart a.flast b.firsts ≡ true → Lawful (ending a b)
ending_lawful {A} {B} a b la lb on = made_lawful (λ (z : A × B). z.0) (seq a b) (seq_lawful a b la lb on)

pub leading_lawful : {A B : Type 0} (a : Rule A) (b : Rule B) → Lawful a → Lawful b → apart a.flast b.firsts ≡ true → Lawful (leading a b)
leading_lawful {A} {B} a b la lb on = made_lawful (λ (z : A × B). z.1) (seq a b) (seq_lawful a b la lb on)

module _ {A : Type 0} (a : Rule A) (la : Lawful a) (some : a.nullable ≡ false) where
  -- a text of it has a first token, so what follows doesn't change the line
  line_stays : (us vs : List Lexeme) (x : A) → a.text us x → head_line (us ++ vs) ≡ head_line us
  line_stays [] vs x t = absurd (clash a.nullable (la.may_be_empty x t) some)
    where
      clash : (e : Bool) → e ≡ true → e ≡ false → ⊥
      clash e p q = cc
  line_stays (u ∷ us) vs x t = refl

  lined_splits : (ts : List Lexeme) (o : Answer A) → Splits a ts o → Splits (lined a) ts (o >>= with_line (head_line ts))
  lined_splits ts (Ok p) w = (w.0, w.1, (sym (line_stays w.0 p.1 p.0 w.2) ∙ sym (ap head_line w.1), w.2), λ vs h. again vs h)
    where
      again : (vs : List Lexeme) → head p.1 ≡ head vs → (lined a).read (w.0 ++ vs) ≡ Ok ((head_line ts, p.0), vs)
      again vs h =
          ap (λ o. o >>= with_line (head_line (w.0 ++ vs))) (w.3 vs h)
          ∙ ap (λ l. Ok ((l, p.0), vs)) (line_stays w.0 vs p.0 w.2 ∙ sym (line_stays w.0 p.1 p.0 w.2) ∙ sym (ap head_line w.1))
  lined_splits ts (Err n) w =
      (w.0, w.1, w.2, (head_line (w.0 ++ w.2), w.3), w.4, w.5, (refl, w.6), λ vs h. ap (λ o. o >>= with_line (head_line (w.0 ++ vs))) (w.7 vs h))

  pub lined_lawful : Lawful (lined a)
  lined_lawful = record {
    splits = λ ts. lined_splits ts (a.read ts) (la.splits ts);
    complete = λ us vs z w g.
        ap (λ o. o >>= with_line (head_line (us ++ vs))) (la.complete us vs z.1 w.1 g)
        ∙ ap (λ l. Ok ((l, z.1), vs)) (line_stays us vs z.1 w.1 ∙ w.0);
    some = (la.some.0, (head_line la.some.0, la.some.1), (refl, la.some.2));
    first = λ t ts z w. la.first t ts z.1 w.1;
    may_be_empty = λ z w. la.may_be_empty z.1 w.1;
  }
