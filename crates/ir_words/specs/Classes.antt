-- What a token is to the grammar.
use Rattle.std.specs.Prelude.{ℕ, Bool, true, false, ◌==◌, List, [], ◌∷◌}
use denote.Enum.Declared.{tag_of}
use Rattle.ir_lex.specs.declared.kind.Kind.{Kind}
use Rattle.ir_lex.specs.declared.kind.Kind.TheVariants as kind
use Rattle.ir_words.specs.Intrinsics.{global_class}
use Rattle.ir_words.specs.Lexemes.{Lexeme}
use Rattle.ir_words.specs.Words.{word_class}
use Rattle.ir_words.specs.contracts.class.Class.{the_type}
use Rattle.ir_words.specs.declared.class.Class.{Class}
use Rattle.ir_words.specs.declared.class.Class.TheVariants.{End, Label, Int, Real, Str, CStr, Local, Meta, Attr, Equal, Comma, Star, OpenRound, CloseRound, OpenSquare, CloseSquare, OpenCurly, CloseCurly, OpenPacked, ClosePacked, Less, Greater, Bar, Bang, Ellipsis, UnknownIntrinsic, Unsupported}

-- the place of a class among all of them, counted from 0
abbrev pub number : Class → ℕ
number class = tag_of the_type class

abbrev pub same : Class → Class → Bool
same a b = number a == number b

abbrev pub class_in : Kind → List ℕ → Class
class_in kind.Word text = word_class text
class_in kind.Global text = global_class text
class_in kind.Label text = Label
class_in kind.Int text = Int
class_in kind.Real text = Real
class_in kind.Str text = Str
class_in kind.CStr text = CStr
class_in kind.Local text = Local
class_in kind.Meta text = Meta
class_in kind.Attr text = Attr
class_in kind.Equal text = Equal
class_in kind.Comma text = Comma
class_in kind.Star text = Star
class_in kind.OpenRound text = OpenRound
class_in kind.CloseRound text = CloseRound
class_in kind.OpenSquare text = OpenSquare
class_in kind.CloseSquare text = CloseSquare
class_in kind.OpenCurly text = OpenCurly
class_in kind.CloseCurly text = CloseCurly
class_in kind.OpenPacked text = OpenPacked
class_in kind.ClosePacked text = ClosePacked
class_in kind.Less text = Less
class_in kind.Greater text = Greater
class_in kind.Bar text = Bar
class_in kind.Bang text = Bang
class_in kind.Ellipsis text = Ellipsis

abbrev pub class_of : Lexeme → Class
class_of lexeme = class_in lexeme.kind lexeme.text

-- the class of the first token
abbrev pub first : List Lexeme → Class
first [] = End
first (lexeme ∷ rest) = class_of lexeme

-- the bytes of the first token
abbrev pub head_text : List Lexeme → List ℕ
head_text [] = []
head_text (lexeme ∷ rest) = lexeme.text

-- the line of the first token, or 0 where there is none
abbrev pub head_line : List Lexeme → ℕ
head_line [] = 0
head_line (lexeme ∷ rest) = lexeme.line

-- a token that begins something that is not compiled
abbrev pub is_unsupported : Class → Bool
is_unsupported Less = true
is_unsupported Ellipsis = true
is_unsupported Unsupported = true
is_unsupported UnknownIntrinsic = true
is_unsupported class = false
