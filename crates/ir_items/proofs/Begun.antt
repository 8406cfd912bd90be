-- Tokens with which a text of a rule begins.
use Rattle.std.proofs.Common.{List, [], ◌∷◌, ◌++◌, ap, append_assoc, refl, subst, sym, ◌∙◌}
use Rattle.std.proofs.lemmas.List.{append-nil}
use Rattle.ir_words.specs.Lexemes.{Lexeme}
use Rattle.ir_rules.specs.Laws.{Lawful}
use Rattle.ir_rules.specs.Reading.{Begins}
use Rattle.ir_rules.specs.Rules.{Rule, each, made, seq}

module _ {A : Type 0} (a : Rule A) where
  pub made_begun : {B : Type 0} (f : A → B) (ts : List Lexeme) → Begins a ts → Begins (made f a) ts
  made_begun f ts b = (b.0, f b.1, (b.1, b.2, refl))

  -- the first of two has begun
  pub first_begun : {B : Type 0} (b : Rule B) → Lawful b → (ts : List Lexeme) → Begins a ts → Begins (seq a b) ts
  first_begun b lb ts w = (w.0 ++ lb.some.0, (w.1, lb.some.1), (ts ++ w.0, lb.some.0, sym (append_assoc ts w.0 lb.some.0), w.2, lb.some.2))

  -- the second of two has begun
  pub second_begun : {B : Type 0} (b : Rule B) (us vs : List Lexeme) (x : A) → a.text us x → Begins b vs → Begins (seq a b) (us ++ vs)
  second_begun b us vs x t w = (w.0, (x, w.1), (us, vs ++ w.0, append_assoc us vs w.0, t, w.2))

  -- one more item
  each_more : (xs : List A) (us vs : List Lexeme) (x : A) → (each a).text us xs → a.text vs x → (each a).text (us ++ vs) (xs ++ x ∷ [])
  each_more [] us vs x w t = (vs, [], ap (λ l. l ++ vs) w ∙ sym (append-nil vs), t, refl)
  each_more (y ∷ ys) us vs x w t =
      (w.0, w.1 ++ vs, ap (λ l. l ++ vs) w.2 ∙ append_assoc w.0 w.1 vs, w.3, each_more ys w.1 vs x w.4 t)

  -- behind items one more has begun
  pub item_begun : (us vs : List Lexeme) (xs : List A) → (each a).text us xs → Begins a vs → Begins (each a) (us ++ vs)
  item_begun us vs xs t w =
      (w.0, xs ++ w.1 ∷ [], subst (λ l. (each a).text l (xs ++ w.1 ∷ [])) (sym (append_assoc us vs w.0)) (each_more xs us (vs ++ w.0) w.1 t w.2))
