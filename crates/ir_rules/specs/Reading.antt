-- What it is to read a whole text by a rule.
use Rattle.std.specs.Prelude.{◌≡◌, ℕ, suc, ◌-◌, ◌<◌, ◌≤◌, List, [], ◌∷◌, ◌++◌, length, take, Ok, Err}
use Rattle.std.specs.declared.result.Result.{Result}
use Rattle.ir_rules.specs.declared.end.End.{End}
use Rattle.ir_rules.specs.declared.end.End.TheVariants.{NoMemory, Bad}
use Rattle.ir_rules.specs.Rules.{Rule, ◌>>=◌}
use Rattle.ir_words.specs.Lexemes.{Lexeme}

-- a text of the rule begins so
abbrev pub Begins : {A : Type 0} → Rule A → List Lexeme → Type 0
Begins {A} r ts = (more : List Lexeme) × (x : A) × r.text (ts ++ more) x

-- The first bad token: a text begins with the tokens before it, and none with it too. At the end of
-- the tokens: they begin a text and are none.
pub record IsFirstBad {A : Type 0} (r : Rule A) (ts : List Lexeme) (at : ℕ) : Type 0 where
  pub within : at ≤ length ts
  pub before : Begins r (take at ts)
  pub bad : at < length ts → Begins r (take (suc at) ts) → ⊥
  pub end : at ≡ length ts → (x : A) → r.text ts x → ⊥

-- the tree of the whole text, or how many tokens are left from its first bad one on
abbrev pub Reads : {A : Type 0} → Rule A → List Lexeme → Result A ℕ → Type 0
Reads r ts (Ok x) = r.text ts x
Reads r ts (Err left) = (left ≤ length ts) × IsFirstBad r ts (length ts - left)

-- no token is to be left
abbrev pub ended : {A : Type 0} → A × List Lexeme → Result A ℕ
ended p = ended_at p.0 p.1
  where
    ended_at : {A : Type 0} → A → List Lexeme → Result A ℕ
    ended_at x [] = Ok x
    ended_at x (t ∷ ts) = Err (suc (length ts))

abbrev pub read_all : {A : Type 0} → Rule A → List Lexeme → Result A ℕ
read_all r ts = r.read ts >>= ended

-- what is answered is what is read; where memory ran out, this holds
abbrev pub GivesUnless : {T A : Type 0} → Type 0 → (T → A) → Result T End → Result A ℕ → Type 0
GivesUnless excuse view (Ok x) read = read ≡ Ok (view x)
GivesUnless excuse view (Err NoMemory) read = excuse
GivesUnless excuse view (Err (Bad left)) read = read ≡ Err left

-- what is answered is what is read, unless memory ran out
abbrev pub Gives : {T A : Type 0} → (T → A) → Result T End → Result A ℕ → Type 0
Gives view result read = GivesUnless (Unit {0}) view result read

-- What is answered is what is read. A reader that takes no memory answers so.
abbrev pub GivesExactly : {T A : Type 0} → (T → A) → Result T End → Result A ℕ → Type 0
GivesExactly view result read = GivesUnless ⊥ view result read

-- The longest prefix that is a text: the tokens are a text with this tree and then the rest, and no
-- prefix with more tokens is a text.
pub record IsLongestPrefix {A : Type 0} (r : Rule A) (ts : List Lexeme) (x : A) (rest : List Lexeme) : Type 0 where
  pub text : (us : List Lexeme) × (ts ≡ us ++ rest) × r.text us x
  pub longest : (us vs : List Lexeme) (y : A) → ts ≡ us ++ vs → r.text us y → length rest ≤ length vs

-- where no prefix is a text: the first bad token, unless memory ran out
abbrev pub StopsAt : {A : Type 0} → Rule A → List Lexeme → End → Type 0
StopsAt r ts NoMemory = Unit {0}
StopsAt r ts (Bad left) = Reads r ts (Err left)
