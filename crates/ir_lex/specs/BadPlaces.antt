-- Why a text has no tokens.
use Rattle.std.specs.Prelude.{◌≡◌, ℕ, ◌<◌, ◌⊎◌, Bool, true, false, List, ◌++◌, drop, length, take}
use Rattle.std.specs.List.{All}
use Rattle.ir_lex.specs.Separated.{AreSeparated}
use Rattle.ir_lex.specs.Spelling.{Spells}
use Rattle.ir_lex.specs.Splitting.{AreSpans, IsTokenOf, is_refused, line_of}
use Rattle.ir_lex.specs.declared.kind.Kind.{Kind}
use Rattle.ir_lex.specs.declared.kind.Token.{Token}
use Rattle.ir_lex.specs.declared.list.LexEnd.{LexEnd}
use Rattle.ir_lex.specs.declared.list.LexEnd.TheVariants.{Lex, NoMemory}

-- whether a token of a text is refused
abbrev pub is_refused_in : List ℕ → Token → Bool
is_refused_in text token = is_refused token.kind (take token.len (drop token.start text))

abbrev pub IsAccepted : List ℕ → Token → Type 0
IsAccepted text token = is_refused_in text token ≡ false

-- the tokens of a text from a place up to another
pub record AreTokens (text : List ℕ) (from end : ℕ) (tokens : List Token) : Type 0 where
  pub spans : AreSpans from end tokens
  pub each : All (IsTokenOf text) tokens
  pub accepted : All (IsAccepted text) tokens
  pub separated : AreSeparated text from end tokens

-- no kind spells a prefix
abbrev pub BeginsNothing : List ℕ → Type 0
BeginsNothing text = (kind : Kind) (prefix rest : List ℕ) → text ≡ prefix ++ rest → Spells kind prefix → ⊥

-- the token that begins at a place is refused
pub record BeginsRefused (text : List ℕ) (at : ℕ) : Type 0 where
  pub token : Token
  pub is : IsTokenOf text token
  pub starts : token.start ≡ at
  pub refused : is_refused_in text token ≡ true

-- a place on this line up to which a text has tokens, and where none begins or one that is refused
pub record IsBadPlace (text : List ℕ) (line : ℕ) : Type 0 where
  pub at : ℕ
  pub tokens : List Token
  pub inside : at < length text
  pub before : AreTokens text 0 at tokens
  pub bad : BeginsNothing (drop at text) ⊎ BeginsRefused text at
  pub on : line ≡ line_of text at

-- the line is that of a bad place, unless memory ran out
abbrev pub Refuses : List ℕ → LexEnd → Type 0
Refuses text (Lex line) = IsBadPlace text line
Refuses text NoMemory = Unit {0}
