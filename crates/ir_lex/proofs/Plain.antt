-- A token that is not in quotes has no line feed, no backslash and no byte 0.
use Rattle.std.proofs.Common.{◌≡◌, ℕ, ◌+◌, ◌-◌, ◌*◌, ◌<◌, ◌==◌, ◌&&◌, ◌||◌, ◌⊎◌, inl, inr, not, Bool, true, false, List, [], ◌∷◌, ◌++◌, ap, arith, cond, get_or, length, sym, take, refl, ◌∙◌}
use Rattle.std.specs.List.{list_all, list_any}
use Rattle.std.proofs.lemmas.Bool.{and_from, and_parts, both_ways, eqb-true, false_from_ne_true, not-true, not_from_false, or_from, or_parts}
use Rattle.std.proofs.lemmas.List.Folds.{list_all-append}
use Rattle.ir_lex.specs.Characters.{is_digit, is_hexadecimal, is_name_byte}
use Rattle.ir_lex.specs.Escapes.{digit_of, escape_byte, escape_len, holds_zero, is_numbered, unescaped, unescaped_after}
use Rattle.ir_lex.specs.Quotes.{is_quoted}
use Rattle.ir_lex.specs.Spelling.{IsContent, IsDecimal, IsExponent, IsFormat, IsHexadecimal, IsInt, IsSign, IsString, Spells}
use Rattle.ir_lex.specs.Splitting.{line_feeds}
use Rattle.ir_lex.specs.declared.kind.Kind.{Kind}
use Rattle.ir_lex.specs.declared.kind.Kind.TheVariants as kind

is_plain : ℕ → Bool
is_plain b = not (b == 10 || b == 0 || b == 92)

-- a byte that passes a test that another fails is not that one
not_that : (p : ℕ → Bool) (b that : ℕ) → p that ≡ false → p b ≡ true → b == that ≡ false
not_that p b that fails passes =
    false_from_ne_true (b == that) (λ e. both_ways (p that) fails (ap p (sym (eqb-true b that e)) ∙ passes))

-- bytes of a class without these three
all_plain : (p : ℕ → Bool) → p 10 ≡ false → p 0 ≡ false → p 92 ≡ false → (text : List ℕ) → list_all p text ≡ true → list_all is_plain text ≡ true
unfolding is_plain
all_plain p feed nul slash [] all = refl
all_plain p feed nul slash (b ∷ text) all =
    let both = and_parts (p b) (list_all p text) all in
    and_from (is_plain b) (list_all is_plain text)
    (not_from_false (b == 10 || b == 0 || b == 92) (or_from (b == 10 || b == 0) (b == 92) (or_from (b == 10) (b == 0) (not_that p b 10 feed both.0) (not_that p b 0 nul both.0)) (not_that p b 92 slash both.0)))
    (all_plain p feed nul slash text both.1)

names : (text : List ℕ) → list_all is_name_byte text ≡ true → list_all is_plain text ≡ true
names text all = all_plain is_name_byte refl refl refl text all

digits : (text : List ℕ) → list_all is_digit text ≡ true → list_all is_plain text ≡ true
digits text all = all_plain is_digit refl refl refl text all

joined : (xs ys : List ℕ) → list_all is_plain xs ≡ true → list_all is_plain ys ≡ true → list_all is_plain (xs ++ ys) ≡ true
joined xs ys x y = list_all-append is_plain xs ys ∙ and_from (list_all is_plain xs) (list_all is_plain ys) x y

label_plain : (content text : List ℕ) → IsContent content → text ≡ content ++ 58 ∷ [] → is_quoted text ≡ false → list_all is_plain text ≡ true
unfolding is_plain
label_plain content text (inl run) is bare = ap (list_all is_plain) is ∙ joined content (58 ∷ []) (names content run.all) refl
label_plain content text (inr string) is bare =
    absurd (both_ways (get_or text 0 0 == 34) (or_parts (get_or text 0 0 == 34) (get_or text 1 0 == 34) bare).0 (ap (λ xs. get_or xs 0 0 == 34) (is ∙ ap (λ xs. xs ++ 58 ∷ []) string.is)))

marked_plain : (mark : ℕ) (content text : List ℕ) → is_plain mark ≡ true → IsContent content → text ≡ mark ∷ content → is_quoted text ≡ false → list_all is_plain text ≡ true
marked_plain mark content text own (inl run) is bare =
    ap (list_all is_plain) is ∙ and_from (is_plain mark) (list_all is_plain content) own (names content run.all)
marked_plain mark content text own (inr string) is bare =
    absurd (both_ways (get_or text 1 0 == 34) (or_parts (get_or text 0 0 == 34) (get_or text 1 0 == 34) bare).1 (ap (λ xs. get_or xs 1 0 == 34) (is ∙ ap (λ xs. mark ∷ xs) string.is)))

int_plain : (text : List ℕ) → IsInt text → list_all is_plain text ≡ true
unfolding is_plain
int_plain text is = elim is.2 [
  | inl plain ↦ ap (list_all is_plain) plain ∙ digits is.0 is.1.all
  | inr minus ↦ ap (list_all is_plain) minus ∙ digits is.0 is.1.all
]

sign_plain : (text : List ℕ) → IsSign text → list_all is_plain text ≡ true
unfolding is_plain
sign_plain text (inl none) = ap (list_all is_plain) none
sign_plain text (inr (inl plus)) = ap (list_all is_plain) plus
sign_plain text (inr (inr minus)) = ap (list_all is_plain) minus

letter_plain : (letter : ℕ) → (letter ≡ 101) ⊎ (letter ≡ 69) → is_plain letter ≡ true
unfolding is_plain
letter_plain letter (inl is) = ap is_plain is
letter_plain letter (inr is) = ap is_plain is

exponent_plain : (text : List ℕ) → (text ≡ []) ⊎ IsExponent text → list_all is_plain text ≡ true
exponent_plain text (inl none) = ap (list_all is_plain) none
exponent_plain text (inr is) =
    ap (list_all is_plain) is.is
    ∙ and_from (is_plain is.letter) (list_all is_plain (is.sign ++ is.digits)) (letter_plain is.letter is.is_letter)
    (joined is.sign is.digits (sign_plain is.sign is.is_sign) (digits is.digits is.run.all))

decimal_plain : (text : List ℕ) → IsDecimal text → list_all is_plain text ≡ true
unfolding is_plain
decimal_plain text is =
    ap (list_all is_plain) is.is
    ∙ joined is.whole (46 ∷ (is.digits ++ is.exponent)) (int_plain is.whole is.is_int)
    (joined is.digits is.exponent (digits is.digits is.run.all) (exponent_plain is.exponent is.is_exponent))

format_plain : (text : List ℕ) → IsFormat text → list_all is_plain text ≡ true
unfolding is_plain
format_plain text (inl e) = ap (list_all is_plain) e
format_plain text (inr (inl e)) = ap (list_all is_plain) e
format_plain text (inr (inr (inl e))) = ap (list_all is_plain) e
format_plain text (inr (inr (inr (inl e)))) = ap (list_all is_plain) e
format_plain text (inr (inr (inr (inr (inl e))))) = ap (list_all is_plain) e
format_plain text (inr (inr (inr (inr (inr e))))) = ap (list_all is_plain) e

hexadecimal_plain : (text : List ℕ) → IsHexadecimal text → list_all is_plain text ≡ true
unfolding is_plain
hexadecimal_plain text is =
    ap (list_all is_plain) is.is
    ∙ joined is.format is.digits (format_plain is.format is.is_format) (all_plain is_hexadecimal refl refl refl is.digits is.run.all)

-- no string is without quotes
first_plain : (text : List ℕ) → IsString text → is_quoted text ≡ false → list_all is_plain text ≡ true
first_plain text is bare =
    absurd (both_ways (get_or text 0 0 == 34) (or_parts (get_or text 0 0 == 34) (get_or text 1 0 == 34) bare).0 (ap (λ xs. get_or xs 0 0 == 34) is.is))

plain : (kind : Kind) (text : List ℕ) → Spells kind text → is_quoted text ≡ false → list_all is_plain text ≡ true
unfolding is_plain
plain kind.Label text is bare = label_plain is.0 text is.1 is.2 bare
plain kind.Int text is bare = int_plain text is
plain kind.Real text (inl is) bare = decimal_plain text is
plain kind.Real text (inr is) bare = hexadecimal_plain text is
plain kind.Word text is bare = names text is.run.all
plain kind.Str text is bare = first_plain text is bare
plain kind.CStr text is bare = marked_plain 99 is.0 text refl (inr is.1) is.2 bare
plain kind.Global text is bare = marked_plain 64 is.0 text refl is.1 is.2 bare
plain kind.Local text is bare = marked_plain 37 is.0 text refl is.1 is.2 bare
plain kind.Meta text is bare = marked_plain 33 is.0 text refl is.1 is.2 bare
plain kind.Attr text is bare = ap (list_all is_plain) is.2 ∙ digits is.0 is.1.all
plain kind.Equal text is bare = ap (list_all is_plain) is
plain kind.Comma text is bare = ap (list_all is_plain) is
plain kind.Star text is bare = ap (list_all is_plain) is
plain kind.OpenRound text is bare = ap (list_all is_plain) is
plain kind.CloseRound text is bare = ap (list_all is_plain) is
plain kind.OpenSquare text is bare = ap (list_all is_plain) is
plain kind.CloseSquare text is bare = ap (list_all is_plain) is
plain kind.OpenCurly text is bare = ap (list_all is_plain) is
plain kind.CloseCurly text is bare = ap (list_all is_plain) is
plain kind.OpenPacked text is bare = ap (list_all is_plain) is
plain kind.ClosePacked text is bare = ap (list_all is_plain) is
plain kind.Less text is bare = ap (list_all is_plain) is
plain kind.Greater text is bare = ap (list_all is_plain) is
plain kind.Bar text is bare = ap (list_all is_plain) is
plain kind.Bang text is bare = ap (list_all is_plain) is
plain kind.Ellipsis text is bare = ap (list_all is_plain) is

plain_feeds : (text : List ℕ) → list_all is_plain text ≡ true → line_feeds text ≡ 0
unfolding is_plain
plain_feeds [] all = refl
plain_feeds (b ∷ text) all =
    let both = and_parts (is_plain b) (list_all is_plain text) all in
    let parts = or_parts (b == 10 || b == 0) (b == 92) (not-true (b == 10 || b == 0 || b == 92) both.0) in
    let feed = (or_parts (b == 10) (b == 0) parts.0).0 in
    let later = plain_feeds text both.1 in
    grind (arith, feed, later)

escape_plain : (b : ℕ) (text : List ℕ) → b == 92 ≡ false → (escape_byte (b ∷ text) ≡ b) × (escape_len (b ∷ text) ≡ 1)
unfolding escape_byte escape_len is_numbered
escape_plain b text other =
    let first = is_hexadecimal (get_or text 0 0) in
    let second = is_hexadecimal (get_or text 1 0) in (
      ap (λ t. cond (t && first && second) (16 * digit_of (get_or text 0 0) + digit_of (get_or text 1 0)) b) other,
      ap (λ t. cond (t && first && second) 3 (cond (t && get_or text 0 0 == 92) 2 1)) other,
    )

plain_zero : (text : List ℕ) → list_all is_plain text ≡ true → list_any (λ b. b == 0) (unescaped_after 0 text) ≡ false
unfolding is_plain unescaped_after
plain_zero [] all = refl
plain_zero (b ∷ text) all =
    let both = and_parts (is_plain b) (list_all is_plain text) all in
    let parts = or_parts (b == 10 || b == 0) (b == 92) (not-true (b == 10 || b == 0 || b == 92) both.0) in
    let nul : b == 0 ≡ false = (or_parts (b == 10) (b == 0) parts.0).1 in
    let step = escape_plain b text parts.1 in
    ap (λ x. x == 0 || list_any (λ b. b == 0) (unescaped_after (escape_len (b ∷ text) - 1) text)) step.0
    ∙ ap (λ t. t || list_any (λ b. b == 0) (unescaped_after (escape_len (b ∷ text) - 1) text)) nul
    ∙ ap (λ n. list_any (λ b. b == 0) (unescaped_after (n - 1) text)) step.1
    ∙ plain_zero text both.1

pub no_feeds : (kind : Kind) (text : List ℕ) → Spells kind text → is_quoted text ≡ false → line_feeds text ≡ 0
no_feeds kind text is bare = plain_feeds text (plain kind text is bare)

pub no_zero : (kind : Kind) (text : List ℕ) → Spells kind text → is_quoted text ≡ false → holds_zero text ≡ false
unfolding holds_zero unescaped
no_zero kind text is bare = plain_zero text (plain kind text is bare)

-- the line feeds of one byte
pub first_feed : (bytes : List ℕ) → 0 < length bytes → line_feeds (take 1 bytes) ≡ cond (get_or bytes 0 0 == 10) 1 0
first_feed [] some = absurd (omega arith)
first_feed (b ∷ bytes) some = omega arith
