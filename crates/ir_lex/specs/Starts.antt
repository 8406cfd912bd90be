-- Which kinds of tokens begin with a byte.
use Rattle.std.specs.Prelude.{ℕ, Bool, false, not, ◌&&◌, ◌||◌, ◌==◌, List, [], ◌∷◌, if◌then◌else◌}
use Rattle.ir_lex.specs.Characters.{is_digit, is_letter, is_name_byte}
use Rattle.ir_lex.specs.declared.longest_match.LongestMatch.{LongestMatch}
use Rattle.ir_lex.specs.declared.kind.Kind.{Kind}
use Rattle.ir_lex.specs.declared.kind.Kind.TheVariants as kind
use Rattle.ir_lex.specs.declared.start.Start.{Start}
use Rattle.ir_lex.specs.declared.start.Start.TheVariants.{Word, CWord, Dot, Number, Single, Name, Only, Pair, Nothing}

-- no token
abbrev pub none : LongestMatch
none = record { kind = kind.Label; len = 0 }

-- what may begin with a byte
abbrev pub start_of : ℕ → Start
start_of b =
    if b == 99 then CWord
    else if b == 46 then Dot
    else if is_letter b || b == 95 || b == 36 then Word
    else if is_digit b || b == 45 then Number
    else if b == 37 then Name kind.Local
    else if b == 44 then Single kind.Comma
    else if b == 61 then Single kind.Equal
    else if b == 64 then Name kind.Global
    else if b == 40 then Single kind.OpenRound
    else if b == 41 then Single kind.CloseRound
    else if b == 91 then Single kind.OpenSquare
    else if b == 93 then Single kind.CloseSquare
    else if b == 123 then Single kind.OpenCurly
    else if b == 42 then Single kind.Star
    else if b == 62 then Single kind.Greater
    else if b == 124 then Single kind.Bar
    else if b == 35 then Only kind.Attr
    else if b == 34 then Pair kind.Label kind.Str
    else if b == 33 then Pair kind.Meta kind.Bang
    else if b == 60 then Pair kind.OpenPacked kind.Less
    else if b == 125 then Pair kind.CloseCurly kind.ClosePacked
    else Nothing

-- the kinds of the tokens that may begin so
abbrev pub kinds_of : Start → List Kind
kinds_of Word = kind.Label ∷ kind.Word ∷ []
kinds_of CWord = kind.Label ∷ kind.Word ∷ kind.CStr ∷ []
kinds_of Dot = kind.Label ∷ kind.Word ∷ kind.Ellipsis ∷ []
kinds_of Number = kind.Label ∷ kind.Int ∷ kind.Real ∷ []
kinds_of (Single k) = k ∷ []
kinds_of (Name k) = k ∷ []
kinds_of (Only k) = k ∷ []
kinds_of (Pair k l) = k ∷ l ∷ []
kinds_of Nothing = []

-- whether a word may begin with a byte, and neither `...` nor a number
abbrev pub begins_word : ℕ → Bool
begins_word b = is_name_byte b && not (is_digit b || b == 45 || b == 46)

-- whether a name of a kind begins with this mark
abbrev pub marks : Kind → ℕ → Bool
marks kind.Global b = b == 64
marks kind.Local b = b == 37
marks other b = false
