-- The laws of a rule.
use Rattle.std.specs.Prelude.{◌≡◌, true, false, List, [], ◌∷◌, ◌++◌, length, Ok, Err, Option, Some, None}
use Rattle.ir_words.specs.Classes.{class_of}
use Rattle.ir_words.specs.Lexemes.{Lexeme}
use Rattle.ir_rules.specs.Rules.{Answer, Rule, begins, has}

-- the first lexeme
abbrev pub head : List Lexeme → Option Lexeme
head [] = None
head (t ∷ ts) = Some t

-- What an answer says of the tokens, for a rule and for it alone: a text and the rest, or a prefix of
-- a text and the bad token, and the same of any tokens that go on with an equal one.
abbrev pub Splits : {A : Type 0} → Rule A → List Lexeme → Answer A → Type 0
Splits r ts (Ok p) =
    (us : List Lexeme) × (ts ≡ us ++ p.1) × r.text us p.0 × ((vs : List Lexeme) → head p.1 ≡ head vs → r.read (us ++ vs) ≡ Ok (p.0, vs))
Splits {A} r ts (Err n) =
    (us : List Lexeme) × (bad : List Lexeme) × (more : List Lexeme) × (x : A) × (ts ≡ us ++ bad) × (n ≡ length bad) × r.text (us ++ more) x
    × ((vs : List Lexeme) → head bad ≡ head vs → r.read (us ++ vs) ≡ Err (length vs))

pub record Lawful {A : Type 0} (r : Rule A) : Type 0 where
  -- it reads a text or stops at a bad token, by the next token alone
  pub splits : (ts : List Lexeme) → Splits r ts (r.read ts)
  -- it reads each text that no token goes on
  pub complete : (us vs : List Lexeme) (x : A) → r.text us x → begins r.flast vs ≡ false → r.read (us ++ vs) ≡ Ok (x, vs)
  -- it has a text
  pub some : (us : List Lexeme) × (x : A) × r.text us x
  pub first : (t : Lexeme) (ts : List Lexeme) (x : A) → r.text (t ∷ ts) x → has r.firsts (class_of t) ≡ true
  pub may_be_empty : (x : A) → r.text [] x → r.nullable ≡ true
