-- The combinators made of others keep the laws.
use Rattle.std.proofs.Common.{◌≡◌, true, false, ◌&&◌, List, [], ◌∷◌, Some, None, refl}
use Rattle.ir_words.specs.Classes.{class_of}
use Rattle.ir_lex.specs.declared.kind.Kind.TheVariants as kind
use Rattle.ir_words.specs.Lexemes.{Lexeme}
use Rattle.ir_words.specs.declared.class.Class.{Class}
use Rattle.ir_rules.specs.Laws.{Lawful}
use Rattle.ir_rules.specs.Rules.{Rule, ◌▷◌, ◌◁◌, apart, commas, commas_some, dropped, each, has, is_word, made, nothing, option, seq, word}
use Rattle.ir_rules.proofs.Chains.{each_lawful}
use Rattle.ir_rules.proofs.Laws.{either_lawful, made_lawful, nothing_lawful, sample, seq_lawful, word_lawful}

-- t is a token of the class
pub before_lawful : {A : Type 0} (class : Class) (t : Lexeme) → is_word class (class_of t) t.text ≡ Some tt → has (class ∷ []) class ≡ true → (a : Rule A) → Lawful a → Lawful (class ▷ a)
before_lawful {A} class t k e a la =
    made_lawful (λ (z : Unit {0} × A). z.1) (seq (word class) a) (seq_lawful (word class) a (word_lawful class t k e) la refl)

pub after_lawful : {A : Type 0} (a : Rule A) → Lawful a → (class : Class) (t : Lexeme) → is_word class (class_of t) t.text ≡ Some tt → has (class ∷ []) class ≡ true
    → apart a.flast (class ∷ []) ≡ true → Lawful (a ◁ class)
after_lawful {A} a la class t k e on =
    made_lawful (λ (z : A × Unit {0}). z.0) (seq a (word class)) (seq_lawful a (word class) la (word_lawful class t k e) on)

pub option_lawful : {A : Type 0} (a : Rule A) → Lawful a → a.nullable ≡ false → Lawful (option a)
option_lawful {A} a la e =
    either_lawful (made (λ (x : A). Some x) a) (nothing None) (made_lawful (λ (x : A). Some x) a la) (nothing_lawful None) e refl

pub dropped_lawful : {A : Type 0} (a : Rule A) → Lawful a → a.nullable ≡ false → apart a.flast a.firsts ≡ true → Lawful (dropped a)
dropped_lawful {A} a la e on = made_lawful (λ (xs : List A). tt) (each a) (each_lawful a la e on)

-- separated by commas, one or more; what an item goes on with is no comma
pub commas_some_lawful : {A : Type 0} (a : Rule A) → Lawful a → apart a.flast (Class.Comma ∷ []) ≡ true → apart (Class.Comma ▷ a).flast (Class.Comma ∷ []) ≡ true
    → Lawful (commas_some a)
commas_some_lawful {A} a la on again =
    made_lawful (λ (z : A × List A). z.0 ∷ z.1) (seq a (each (Class.Comma ▷ a)))
    (seq_lawful a (each (Class.Comma ▷ a)) la
    (each_lawful (Class.Comma ▷ a) (before_lawful Class.Comma (sample kind.Comma []) refl refl a la) refl again) on)

-- none or more
pub commas_lawful : {A : Type 0} (a : Rule A) → Lawful a → (a.nullable && true) ≡ false → apart a.flast (Class.Comma ∷ []) ≡ true
    → apart (Class.Comma ▷ a).flast (Class.Comma ∷ []) ≡ true → Lawful (commas a)
commas_lawful a la e on again = either_lawful (commas_some a) (nothing []) (commas_some_lawful a la on again) (nothing_lawful []) e refl
