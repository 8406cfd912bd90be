-- Tokens between brackets, of which only the brackets count.
use Rattle.std.specs.Prelude.{◌≡◌, ℕ, suc, ◌<◌, Bool, false, List, [], ◌∷◌, ◌++◌, drop, length, Ok, Err, if◌then◌else◌}
use Rattle.std.specs.declared.result.Result.{Result}
use Rattle.ir_words.specs.Classes.{class_of, same}
use Rattle.ir_words.specs.Lexemes.{Lexeme}
use Rattle.ir_words.specs.declared.class.Class.{Class}
use Rattle.ir_rules.specs.Rules.{Answer, Rule, ◌>>=◌, word}
use Rattle.ir_rules.specs.declared.bracket.Bracket.{Bracket}
use Rattle.ir_rules.specs.declared.bracket.Bracket.TheVariants.{Round, Square, Curly, Packed}
use Rattle.ir_rules.specs.declared.bracket.Role.{Role}
use Rattle.ir_rules.specs.declared.bracket.Role.TheVariants.{Opens, Closes, Plain}
use Rattle.ir_rules.specs.declared.end.End.{End}
use Rattle.ir_rules.specs.declared.end.End.TheVariants.{NoMemory, Bad}

abbrev pub opener : Bracket → Class
opener Round = Class.OpenRound
opener Square = Class.OpenSquare
opener Curly = Class.OpenCurly
opener Packed = Class.OpenPacked

abbrev pub role_of : Class → Role
role_of Class.OpenRound = Opens Round
role_of Class.OpenSquare = Opens Square
role_of Class.OpenCurly = Opens Curly
role_of Class.OpenPacked = Opens Packed
role_of Class.CloseRound = Closes Round
role_of Class.CloseSquare = Closes Square
role_of Class.CloseCurly = Closes Curly
role_of Class.ClosePacked = Closes Packed
role_of class = Plain

-- tokens, and brackets with what stands between them
pub data Parts : Type 0 where
  none : Parts
  plain : Lexeme → Parts → Parts
  pair : Lexeme → Parts → Lexeme → Parts → Parts

abbrev pub tokens_of : Parts → List Lexeme
tokens_of none = []
tokens_of (plain t rest) = t ∷ tokens_of rest
tokens_of (pair opening inside closing rest) = opening ∷ (tokens_of inside ++ closing ∷ tokens_of rest)

-- a bracket and the one that closes it
abbrev pub AreBrackets : Lexeme → Lexeme → Type 0
AreBrackets opening closing = (b : Bracket) × (role_of (class_of opening) ≡ Opens b) × (role_of (class_of closing) ≡ Closes b)

-- each bracket is closed by one of its own
abbrev pub AreBalanced : Parts → Type 0
AreBalanced none = Unit {0}
AreBalanced (plain t rest) = (role_of (class_of t) ≡ Plain) × AreBalanced rest
AreBalanced (pair opening inside closing rest) = AreBrackets opening closing × AreBalanced inside × AreBalanced rest

abbrev pub is_closed_by : Bracket → Bracket → Bool
is_closed_by a b = same (opener a) (opener b)

abbrev pub skip_on : Role → Bracket → List Bracket → ℕ → (List Bracket → Answer (Unit {0})) → Answer (Unit {0})
skip_on (Opens b) awaited stack left skip = skip (b ∷ awaited ∷ stack)
skip_on (Closes b) awaited stack left skip = if is_closed_by awaited b then skip stack else Err left
skip_on Plain awaited stack left skip = skip (awaited ∷ stack)

-- to where all open brackets are closed, the innermost first
abbrev pub skip_to : List Bracket → List Lexeme → Answer (Unit {0})
skip_to [] ts = Ok (tt, ts)
skip_to (awaited ∷ stack) [] = Err 0
skip_to (awaited ∷ stack) (t ∷ ts) = skip_on (role_of (class_of t)) awaited stack (suc (length ts)) (λ stack. skip_to stack ts)

-- After a token these brackets are awaited in place of those before it, and it was there; or it is
-- the bad one.
abbrev pub Passes : Result (Unit {0}) End → List Bracket → List Lexeme → List Bracket → Type 0
Passes (Ok done) awaited ts behind = (0 < length ts) × (skip_to awaited ts ≡ skip_to behind (drop 1 ts))
Passes (Err NoMemory) awaited ts behind = Unit {0}
Passes (Err (Bad left)) awaited ts behind = skip_to awaited ts ≡ Err left

-- a bracket, balanced tokens, and the bracket that closes it
abbrev pub enclosed : Bracket → Rule (Unit {0})
enclosed b = record {
  text = λ ts x. (opening : Lexeme) × (inside : Parts) × (closing : Lexeme) × (ts ≡ opening ∷ (tokens_of inside ++ closing ∷ [])) × AreBalanced inside
      × (class_of opening ≡ opener b) × (role_of (class_of closing) ≡ Closes b);
  read = λ ts. (word (opener b)).read ts >>= (λ (p : Unit {0} × List Lexeme). skip_to (b ∷ []) p.1);
  firsts = opener b ∷ [];
  flast = [];
  nullable = false;
}
