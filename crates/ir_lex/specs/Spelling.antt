-- How a token of each kind is spelled.
use Rattle.std.specs.Prelude.{◌≡◌, ◌≢◌, ℕ, ◌<◌, ◌⊎◌, true, false, List, [], ◌∷◌, ◌++◌, codes, length, slice_index}
use Rattle.std.specs.List.{list_all}
use Rattle.ir_lex.specs.Characters.{is_digit, is_in}
use Rattle.ir_lex.specs.declared.class.Class.{Class}
use Rattle.ir_lex.specs.declared.class.Class.TheVariants.{Digit, Hexadecimal, Name, Quoted}
use Rattle.ir_lex.specs.declared.kind.Kind.{Kind}
use Rattle.ir_lex.specs.declared.kind.Kind.TheVariants.{Label, Int, Real, Word, Str, CStr, Global, Local, Meta, Attr, Equal, Comma, Star, OpenRound, CloseRound, OpenSquare, CloseSquare, OpenCurly, CloseCurly, OpenPacked, ClosePacked, Less, Greater, Bar, Bang, Ellipsis}

-- one or more bytes of a class
pub record IsRun (class : Class) (text : List ℕ) : Type 0 where
  pub some : 0 < length text
  pub all : list_all (is_in class) text ≡ true

-- `"`, bytes other than `"`, `"`
pub record IsString (text : List ℕ) : Type 0 where
  pub inner : List ℕ
  pub all : list_all (is_in Quoted) inner ≡ true
  pub is : text ≡ 34 ∷ (inner ++ 34 ∷ [])

-- characters of a name, or a string
abbrev pub IsContent : List ℕ → Type 0
IsContent text = IsRun Name text ⊎ IsString text

-- a mark, and characters of a name or a string
abbrev pub IsMarked : ℕ → List ℕ → Type 0
IsMarked mark text = (content : List ℕ) × IsContent content × (text ≡ mark ∷ content)

-- an optional `-` and digits
abbrev pub IsInt : List ℕ → Type 0
IsInt text = (digits : List ℕ) × IsRun Digit digits × ((text ≡ digits) ⊎ (text ≡ 45 ∷ digits))

abbrev pub IsSign : List ℕ → Type 0
IsSign text = (text ≡ []) ⊎ (text ≡ 43 ∷ []) ⊎ (text ≡ 45 ∷ [])

-- `e` or `E`, an optional sign, and digits
pub record IsExponent (text : List ℕ) : Type 0 where
  pub letter : ℕ
  pub sign : List ℕ
  pub digits : List ℕ
  pub is_letter : (letter ≡ 101) ⊎ (letter ≡ 69)
  pub is_sign : IsSign sign
  pub run : IsRun Digit digits
  pub is : text ≡ letter ∷ (sign ++ digits)

-- an INT, a point with digits, and an optional exponent
pub record IsDecimal (text : List ℕ) : Type 0 where
  pub whole : List ℕ
  pub digits : List ℕ
  pub exponent : List ℕ
  pub is_int : IsInt whole
  pub run : IsRun Digit digits
  pub is_exponent : (exponent ≡ []) ⊎ IsExponent exponent
  pub is : text ≡ whole ++ 46 ∷ (digits ++ exponent)

-- at most one of `K L M H R`
abbrev pub IsFormat : List ℕ → Type 0
IsFormat text = (text ≡ []) ⊎ (text ≡ codes "K") ⊎ (text ≡ codes "L") ⊎ (text ≡ codes "M") ⊎ (text ≡ codes "H") ⊎ (text ≡ codes "R")

-- `0x`, at most one of `K L M H R`, and hexadecimal digits
pub record IsHexadecimal (text : List ℕ) : Type 0 where
  pub format : List ℕ
  pub digits : List ℕ
  pub is_format : IsFormat format
  pub run : IsRun Hexadecimal digits
  pub is : text ≡ 48 ∷ 120 ∷ (format ++ digits)

-- characters of a name that begin with neither a digit nor `-`, and aren't `...`
pub record IsWord (text : List ℕ) : Type 0 where
  pub run : IsRun Name text
  pub no_digit : is_digit (slice_index text 0) ≡ false
  pub no_minus : slice_index text 0 ≢ 45
  pub no_dots : text ≢ codes "..."

abbrev pub Spells : Kind → List ℕ → Type 0
Spells Label text = (content : List ℕ) × IsContent content × (text ≡ content ++ 58 ∷ [])
Spells Int text = IsInt text
Spells Real text = IsDecimal text ⊎ IsHexadecimal text
Spells Word text = IsWord text
Spells Str text = IsString text
Spells CStr text = (string : List ℕ) × IsString string × (text ≡ 99 ∷ string)
Spells Global text = IsMarked 64 text
Spells Local text = IsMarked 37 text
Spells Meta text = IsMarked 33 text
Spells Attr text = (digits : List ℕ) × IsRun Digit digits × (text ≡ 35 ∷ digits)
Spells Equal text = text ≡ codes "="
Spells Comma text = text ≡ codes ","
Spells Star text = text ≡ codes "*"
Spells OpenRound text = text ≡ codes "("
Spells CloseRound text = text ≡ codes ")"
Spells OpenSquare text = text ≡ codes "["
Spells CloseSquare text = text ≡ codes "]"
Spells OpenCurly text = text ≡ codes "{"
Spells CloseCurly text = text ≡ codes "}"
Spells OpenPacked text = text ≡ codes "<{"
Spells ClosePacked text = text ≡ codes "}>"
Spells Less text = text ≡ codes "<"
Spells Greater text = text ≡ codes ">"
Spells Bar text = text ≡ codes "|"
Spells Bang text = text ≡ codes "!"
Spells Ellipsis text = text ≡ codes "..."
