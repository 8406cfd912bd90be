-- Small rules of which productions are made.
use Rattle.std.specs.Prelude.{◌≡◌, ℕ, Bool, is_some, List, Ok, None, Option, if◌then◌else◌}
use Rattle.ir_words.specs.Classes.{head_line}
use Rattle.ir_words.specs.Lexemes.{Lexeme}
use Rattle.ir_words.specs.declared.class.Class.{Class}
use Rattle.ir_rules.specs.Rules.{Answer, Rule, ◌>>=◌, has, made, option, seq, token, word}

abbrev pub of_class : {A : Type 0} → List Class → (List ℕ → Option A) → Class → List ℕ → Option A
of_class cs f class text = if has cs class then f text else None

-- one token, of one of these classes, whose bytes give a tree
abbrev pub leaf : {A : Type 0} → List Class → (List ℕ → Option A) → Rule A
leaf cs f = token cs (of_class cs f)

-- a token of a class, which stands for a tree
abbrev pub means : {A : Type 0} → Class → A → Rule A
means {A} class x = made (λ (u : Unit {0}). x) (word class)

-- whether a token of a class stands here
abbrev pub flag : Class → Rule Bool
flag class = made (λ (o : Option (Unit {0})). is_some o) (option (word class))

-- one after the other, the second one's tree dropped
abbrev pub ending : {A B : Type 0} → Rule A → Rule B → Rule A
ending {A} {B} a b = made (λ (z : A × B). z.0) (seq a b)

-- one after the other, the first one's tree dropped
abbrev pub leading : {A B : Type 0} → Rule A → Rule B → Rule B
leading {A} {B} a b = made (λ (z : A × B). z.1) (seq a b)

abbrev pub with_line : {A : Type 0} → ℕ → A × List Lexeme → Answer (ℕ × A)
with_line line p = Ok ((line, p.0), p.1)

-- the same texts, with the line of the first token
abbrev pub lined : {A : Type 0} → Rule A → Rule (ℕ × A)
lined {A} a = record {
  text = λ ts z. (head_line ts ≡ z.0) × a.text ts z.1;
  read = λ ts. a.read ts >>= with_line (head_line ts);
  firsts = a.firsts;
  flast = a.flast;
  nullable = a.nullable;
}
