-- No text is spelled as two kinds say.
use Rattle.std.proofs.Common.{◌≡◌, ℕ, ◌⊎◌, inl, inr, ◌==◌, ◌&&◌, ◌||◌, Bool, true, false, List, [], ◌∷◌, ◌++◌, ap, arith, codes, cond, drop, get_or, length, sym, refl, ◌∙◌}
use Rattle.std.specs.List.{list_all}
use Rattle.std.specs.Str.{bytes_eq}
use Rattle.std.proofs.lemmas.Bool.{and_parts, both_ways, eqb-true, false_from_ne_true, ne_eqb, or_from}
use Rattle.std.proofs.lemmas.List.Folds.{list_all-append}
use Rattle.std.proofs.lemmas.Slice.Eq.{bytes_eq-Decides}
use Rattle.ir_lex.specs.Characters.{is_digit, is_in, is_name_byte}
use Rattle.ir_lex.specs.Spelling.{IsContent, IsDecimal, IsExponent, IsHexadecimal, IsRun, IsString, IsWord, Spells}
use Rattle.ir_lex.specs.declared.class.Class.{Class}
use Rattle.ir_lex.specs.declared.class.Class.TheVariants.{Digit, Hexadecimal, Name}
use Rattle.ir_lex.specs.declared.kind.Kind.{Kind}
use Rattle.ir_lex.specs.declared.kind.Kind.TheVariants as kind
use Rattle.ir_lex.proofs.Reaches.{content_some, positive}

-- whether the last byte is this one, or what is said where there is none
ends : Bool → ℕ → List ℕ → Bool
ends none byte [] = none
ends none byte (b ∷ text) = ends (b == byte) byte text

-- the kind of what is spelled with this first byte, which no name has
mark_kind : ℕ → Bool → Kind
mark_kind b alone =
    cond (b == 34) kind.Str
    (cond (b == 64) kind.Global
    (cond (b == 37) kind.Local
    (cond (b == 33) (cond alone kind.Bang kind.Meta)
    (cond (b == 35) kind.Attr
    (cond (b == 61) kind.Equal
    (cond (b == 44) kind.Comma
    (cond (b == 42) kind.Star
    (cond (b == 40) kind.OpenRound
    (cond (b == 41) kind.CloseRound
    (cond (b == 91) kind.OpenSquare
    (cond (b == 93) kind.CloseSquare
    (cond (b == 123) kind.OpenCurly
    (cond (b == 125) (cond alone kind.CloseCurly kind.ClosePacked)
    (cond (b == 60) (cond alone kind.Less kind.OpenPacked)
    (cond (b == 62) kind.Greater kind.Bar)))))))))))))))

-- the kind of what is spelled with this first byte and ends with no colon
first_kind : ℕ → List ℕ → Kind
first_kind b text =
    cond (is_digit b || b == 45) (cond (list_all is_digit text) kind.Int kind.Real)
    (cond (b == 99 && ends false 34 text) kind.CStr
    (cond (is_name_byte b) (cond (bytes_eq (b ∷ text) (codes "...")) kind.Ellipsis kind.Word)
    (mark_kind b (length text == 0))))

-- the kind of what is spelled
kind_of : List ℕ → Kind
kind_of text = cond (ends false 58 text) kind.Label (first_kind (get_or text 0 0) (drop 1 text))

ends_append : (none : Bool) (byte : ℕ) (xs ys : List ℕ) → ends none byte (xs ++ ys) ≡ ends (ends none byte xs) byte ys
unfolding ends
ends_append none byte [] ys = refl
ends_append none byte (x ∷ xs) ys = ends_append (x == byte) byte xs ys

other_byte : (class : Class) (b byte : ℕ) → is_in class byte ≡ false → is_in class b ≡ true → b == byte ≡ false
other_byte class b byte other own =
    false_from_ne_true (b == byte) (λ e. both_ways (is_in class byte) other (ap (is_in class) (sym (eqb-true b byte e)) ∙ own))

ends_all : (class : Class) (byte : ℕ) (none : Bool) (text : List ℕ) → is_in class byte ≡ false → none ≡ false → list_all (is_in class) text ≡ true → ends none byte text ≡ false
unfolding ends
ends_all class byte none [] other is all = is
ends_all class byte none (b ∷ text) other is all =
    let both = and_parts (is_in class b) (list_all (is_in class) text) all in
    ends_all class byte (b == byte) text other (other_byte class b byte other both.0) both.1

ends_run : (class : Class) (byte : ℕ) (none : Bool) (text : List ℕ) → is_in class byte ≡ false → IsRun class text → ends none byte text ≡ false
unfolding ends
ends_run class byte none [] other run = absurd (omega (arith, run.some))
ends_run class byte none (b ∷ text) other run = ends_all class byte false (b ∷ text) other refl run.all

ends_string : (byte : ℕ) (none : Bool) (text : List ℕ) → IsString text → ends none byte text ≡ (34 == byte)
unfolding ends
ends_string byte none text is = ap (ends none byte) is.is ∙ ends_append (34 == byte) byte is.inner (34 ∷ [])

ends_content : (none : Bool) (content : List ℕ) → IsContent content → ends none 58 content ≡ false
ends_content none content (inl run) = ends_run Name 58 none content refl run
ends_content none content (inr string) = ends_string 58 none content string

no_label : (text : List ℕ) → ends false 58 text ≡ false → kind_of text ≡ first_kind (get_or text 0 0) (drop 1 text)
unfolding kind_of
no_label text is = ap (λ t. cond t kind.Label (first_kind (get_or text 0 0) (drop 1 text))) is

-- what begins with a digit or `-`
number_kind : (b : ℕ) (text : List ℕ) (whole : Bool) → (is_digit b || b == 45) ≡ true → list_all is_digit text ≡ whole → first_kind b text ≡ cond whole kind.Int kind.Real
unfolding first_kind
number_kind b text whole is all =
    ap (λ t. cond t (cond (list_all is_digit text) kind.Int kind.Real)
    (cond (b == 99 && ends false 34 text) kind.CStr (cond (is_name_byte b) (cond (bytes_eq (b ∷ text) (codes "...")) kind.Ellipsis kind.Word) (mark_kind b (length text == 0))))) is
    ∙ ap (λ t. cond t kind.Int kind.Real) all

digits_kind : (digits : List ℕ) → IsRun Digit digits → kind_of digits ≡ kind.Int
digits_kind [] run = absurd (omega (arith, run.some))
digits_kind (d ∷ digits) run =
    let both = and_parts (is_digit d) (list_all is_digit digits) run.all in
    no_label (d ∷ digits) (ends_run Digit 58 false (d ∷ digits) refl run) ∙ number_kind d digits true (ap (λ t. t || d == 45) both.0) both.1

minus_kind : (digits : List ℕ) → IsRun Digit digits → kind_of (45 ∷ digits) ≡ kind.Int
unfolding ends
minus_kind digits run =
    no_label (45 ∷ digits) (ends_run Digit 58 (45 == 58) digits refl run) ∙ number_kind 45 digits true refl run.all

no_whole : (digits rest : List ℕ) → list_all is_digit (digits ++ 46 ∷ rest) ≡ false
no_whole digits rest = list_all-append is_digit digits (46 ∷ rest) ∙ never (list_all is_digit digits)
  where
    never : (t : Bool) → (t && false) ≡ false
    never true = refl
    never false = refl

point_kind : (digits rest : List ℕ) → IsRun Digit digits → ends false 58 (digits ++ 46 ∷ rest) ≡ false → kind_of (digits ++ 46 ∷ rest) ≡ kind.Real
point_kind [] rest run is = absurd (omega (arith, run.some))
point_kind (d ∷ digits) rest run is =
    let both = and_parts (is_digit d) (list_all is_digit digits) run.all in
    no_label (d ∷ (digits ++ 46 ∷ rest)) is ∙ number_kind d (digits ++ 46 ∷ rest) false (ap (λ t. t || d == 45) both.0) (no_whole digits rest)

ends_exponent : (none : Bool) (digits exponent : List ℕ) → IsRun Digit digits → (exponent ≡ []) ⊎ IsExponent exponent → ends none 58 (digits ++ exponent) ≡ false
unfolding ends
ends_exponent none digits exponent run (inl is) =
    ends_append none 58 digits exponent ∙ ap (ends (ends none 58 digits) 58) is ∙ ends_run Digit 58 none digits refl run
ends_exponent none digits exponent run (inr is) =
    ends_append none 58 digits exponent ∙ ap (ends (ends none 58 digits) 58) is.is
    ∙ ends_append (is.letter == 58) 58 is.sign is.digits ∙ ends_run Digit 58 (ends (is.letter == 58) 58 is.sign) is.digits refl is.run

decimal_kind : (text : List ℕ) → IsDecimal text → kind_of text ≡ kind.Real
unfolding ends
decimal_kind text is =
    let rest = is.digits ++ is.exponent in
    let last : ends false 58 (is.whole ++ 46 ∷ rest) ≡ false =
    ends_append false 58 is.whole (46 ∷ rest) ∙ ends_exponent (46 == 58) is.digits is.exponent is.run is.is_exponent in
    elim is.is_int.2 [
      | inl plain ↦
          let same : is.whole ++ 46 ∷ rest ≡ is.is_int.0 ++ 46 ∷ rest = ap (λ xs. xs ++ 46 ∷ rest) plain in
          ap kind_of (is.is ∙ same) ∙ point_kind is.is_int.0 rest is.is_int.1 (ap (ends false 58) (sym same) ∙ last)
      | inr minus ↦
          let same : is.whole ++ 46 ∷ rest ≡ 45 ∷ (is.is_int.0 ++ 46 ∷ rest) = ap (λ xs. xs ++ 46 ∷ rest) minus in
          ap kind_of (is.is ∙ same) ∙ no_label (45 ∷ (is.is_int.0 ++ 46 ∷ rest)) (ap (ends false 58) (sym same) ∙ last)
          ∙ number_kind 45 (is.is_int.0 ++ 46 ∷ rest) false refl (no_whole is.is_int.0 rest)
    ]

hexadecimal_kind : (text : List ℕ) → IsHexadecimal text → kind_of text ≡ kind.Real
unfolding ends
hexadecimal_kind text is =
    let rest = is.format ++ is.digits in
    ap kind_of is.is
    ∙ no_label (48 ∷ 120 ∷ rest) (ends_append (120 == 58) 58 is.format is.digits ∙ ends_run Hexadecimal 58 (ends (120 == 58) 58 is.format) is.digits refl is.run)
    ∙ number_kind 48 (120 ∷ rest) false refl refl

word_kind : (text : List ℕ) → IsWord text → kind_of text ≡ kind.Word
unfolding first_kind
word_kind [] is = absurd (omega (arith, is.run.some))
word_kind (b ∷ text) is =
    let both = and_parts (is_name_byte b) (list_all is_name_byte text) is.run.all in
    let marked = mark_kind b (length text == 0) in
    let named = cond (bytes_eq (b ∷ text) (codes "...")) kind.Ellipsis kind.Word in
    no_label (b ∷ text) (ends_run Name 58 false (b ∷ text) refl is.run)
    ∙ ap (λ t. cond t (cond (list_all is_digit text) kind.Int kind.Real) (cond (b == 99 && ends false 34 text) kind.CStr (cond (is_name_byte b) named marked)))
    (or_from (is_digit b) (b == 45) is.no_digit (ne_eqb b 45 is.no_minus))
    ∙ ap (λ t. cond (b == 99 && t) kind.CStr (cond (is_name_byte b) named marked)) (ends_all Name 34 false text refl refl both.1)
    ∙ never (b == 99) (cond (is_name_byte b) named marked)
    ∙ ap (λ t. cond t named marked) both.0
    ∙ ap (λ t. cond t kind.Ellipsis kind.Word) (false_from_ne_true (bytes_eq (b ∷ text) (codes "...")) (λ e. is.no_dots ((bytes_eq-Decides (b ∷ text) (codes "...")).0 e)))
  where
    never : (t : Bool) (k : Kind) → cond (t && false) kind.CStr k ≡ k
    never true k = refl
    never false k = refl

cstring_kind : (text string : List ℕ) → IsString string → text ≡ 99 ∷ string → kind_of text ≡ kind.CStr
unfolding ends first_kind
cstring_kind text string is split =
    ap kind_of split ∙ no_label (99 ∷ string) (ends_string 58 (99 == 58) string is)
    ∙ ap (λ t. cond t kind.CStr (cond (bytes_eq (99 ∷ string) (codes "...")) kind.Ellipsis kind.Word)) (ends_string 34 false string is)

-- what begins with a mark
marked_kind : (mark : ℕ) (text content : List ℕ) → IsContent content → text ≡ mark ∷ content → kind_of text ≡ first_kind mark content
unfolding ends
marked_kind mark text content is split = ap kind_of split ∙ no_label (mark ∷ content) (ends_content (mark == 58) content is)

spelled_kind : (k : Kind) (text : List ℕ) → Spells k text → kind_of text ≡ k
unfolding kind_of first_kind mark_kind ends
spelled_kind kind.Label text is =
    ap (λ t. cond t kind.Label (first_kind (get_or text 0 0) (drop 1 text))) (ap (ends false 58) is.2 ∙ ends_append false 58 is.0 (58 ∷ []))
spelled_kind kind.Int text is = elim is.2 [
  | inl plain ↦ ap kind_of plain ∙ digits_kind is.0 is.1
  | inr minus ↦ ap kind_of minus ∙ minus_kind is.0 is.1
]
spelled_kind kind.Real text (inl is) = decimal_kind text is
spelled_kind kind.Real text (inr is) = hexadecimal_kind text is
spelled_kind kind.Word text is = word_kind text is
spelled_kind kind.Str text is = no_label text (ends_string 58 false text is) ∙ ap (λ xs. first_kind (get_or xs 0 0) (drop 1 xs)) is.is
spelled_kind kind.CStr text is = cstring_kind text is.0 is.1 is.2
spelled_kind kind.Global text is = marked_kind 64 text is.0 is.1 is.2
spelled_kind kind.Local text is = marked_kind 37 text is.0 is.1 is.2
spelled_kind kind.Meta text is = marked_kind 33 text is.0 is.1 is.2 ∙ ap (λ t. cond t kind.Bang kind.Meta) (positive (length is.0) (content_some is.0 is.1))
spelled_kind kind.Attr text is = ap kind_of is.2 ∙ no_label (35 ∷ is.0) (ends_run Digit 58 (35 == 58) is.0 refl is.1)
spelled_kind kind.Equal text is = ap kind_of is
spelled_kind kind.Comma text is = ap kind_of is
spelled_kind kind.Star text is = ap kind_of is
spelled_kind kind.OpenRound text is = ap kind_of is
spelled_kind kind.CloseRound text is = ap kind_of is
spelled_kind kind.OpenSquare text is = ap kind_of is
spelled_kind kind.CloseSquare text is = ap kind_of is
spelled_kind kind.OpenCurly text is = ap kind_of is
spelled_kind kind.CloseCurly text is = ap kind_of is
spelled_kind kind.OpenPacked text is = ap kind_of is
spelled_kind kind.ClosePacked text is = ap kind_of is
spelled_kind kind.Less text is = ap kind_of is
spelled_kind kind.Greater text is = ap kind_of is
spelled_kind kind.Bar text is = ap kind_of is
spelled_kind kind.Bang text is = ap kind_of is
spelled_kind kind.Ellipsis text is = ap kind_of is

pub one_kind : (k l : Kind) (text : List ℕ) → Spells k text → Spells l text → k ≡ l
one_kind k l text this that = sym (spelled_kind k text this) ∙ spelled_kind l text that
