-- The longest token is no shorter than any text of a kind at the start: the kinds left, and all.
use Rattle.std.proofs.Common.{◌≡◌, ℕ, ◌+◌, ◌≤◌, ◌⊎◌, inl, inr, ◌==◌, ◌||◌, Bool, true, false, List, ◌∷◌, ◌++◌, ap, append_assoc, arith, codes, cond, drop, get_or, length, length-append, sym, take, refl, ◌∙◌}
use Rattle.std.specs.Str.{bytes_eq}
use Rattle.std.proofs.lemmas.Bool.{eqb-true, or_from}
use Rattle.std.proofs.lemmas.List.{get_or_append_left}
use Rattle.std.proofs.lemmas.List.Folds.{length-prefix_len}
use Rattle.std.proofs.lemmas.Slice.Eq.{bytes_eq-Decides}
use Rattle.std.proofs.Math.Seq.{drop-append_seam}
use Rattle.ir_lex.specs.Characters.{is_digit, is_in, run}
use Rattle.ir_lex.specs.Lengths.{decimal_len, format_len, hexadecimal_len, int_len, len_of, minus_len, more_than, point_len, real_len, spelled_len, word_len}
use Rattle.ir_lex.specs.Spelling.{IsFormat, IsHexadecimal, IsRun, IsWord, Spells}
use Rattle.ir_lex.specs.Splitting.{longest_match}
use Rattle.ir_lex.specs.declared.class.Class.TheVariants.{Hexadecimal, Name}
use Rattle.ir_lex.specs.declared.kind.Kind.{Kind}
use Rattle.ir_lex.specs.declared.kind.Kind.TheVariants.{Label, Int, Real, Word, Str, CStr, Global, Local, Meta, Attr, Equal, Comma, Star, OpenRound, CloseRound, OpenSquare, CloseSquare, OpenCurly, CloseCurly, OpenPacked, ClosePacked, Less, Greater, Bar, Bang, Ellipsis}
use Rattle.ir_lex.proofs.Longest.{none_longer}
use Rattle.ir_lex.proofs.Reaches.{more_reaches, no_first, run_reaches, string_text}
use Rattle.ir_lex.proofs.ReachesKinds.{attribute_reaches, cstring_reaches, decimal_reaches, drop_next, int_whole, label_reaches, marked_reaches, word_reaches}

format_whole : (format digits rest : List ℕ) → IsFormat format → IsRun Hexadecimal digits → format_len (format ++ (digits ++ rest)) ≡ length format
unfolding format_len
format_whole format digits rest (inl none) is =
    let b = get_or (digits ++ rest) 0 0 in
    ap (λ xs. format_len (xs ++ (digits ++ rest))) none
    ∙ ap (λ t. cond t 1 0) (or_from (b == 75 || b == 76 || b == 77 || b == 72) (b == 82)
    (or_from (b == 75 || b == 76 || b == 77) (b == 72)
    (or_from (b == 75 || b == 76) (b == 77)
    (or_from (b == 75) (b == 76) (no_first Hexadecimal 75 digits rest refl is) (no_first Hexadecimal 76 digits rest refl is))
    (no_first Hexadecimal 77 digits rest refl is))
    (no_first Hexadecimal 72 digits rest refl is))
    (no_first Hexadecimal 82 digits rest refl is))
    ∙ ap length (sym none)
format_whole format digits rest (inr (inl e)) is = ap (λ xs. format_len (xs ++ (digits ++ rest))) e ∙ ap length (sym e)
format_whole format digits rest (inr (inr (inl e))) is = ap (λ xs. format_len (xs ++ (digits ++ rest))) e ∙ ap length (sym e)
format_whole format digits rest (inr (inr (inr (inl e)))) is = ap (λ xs. format_len (xs ++ (digits ++ rest))) e ∙ ap length (sym e)
format_whole format digits rest (inr (inr (inr (inr (inl e))))) is = ap (λ xs. format_len (xs ++ (digits ++ rest))) e ∙ ap length (sym e)
format_whole format digits rest (inr (inr (inr (inr (inr e))))) is = ap (λ xs. format_len (xs ++ (digits ++ rest))) e ∙ ap length (sym e)

hexadecimal_at : (format digits rest : List ℕ) → IsFormat format → IsRun Hexadecimal digits
    → 2 + length format + length digits ≤ hexadecimal_len (48 ∷ 120 ∷ (format ++ (digits ++ rest)))
unfolding hexadecimal_len
hexadecimal_at format digits rest is_format is =
    let tail = format ++ (digits ++ rest) in
    let bytes = 48 ∷ 120 ∷ tail in
    let past : drop (2 + length format) bytes ≡ digits ++ rest =
    ap (λ k. drop k bytes) two ∙ drop_next (1 + length format) 48 (120 ∷ tail) ∙ drop_next (length format) 120 tail
    ∙ drop-append_seam format (digits ++ rest) in
    let len : hexadecimal_len bytes ≡ more_than (2 + length format) (run Hexadecimal (digits ++ rest)) =
    ap (λ f. more_than (2 + f) (run Hexadecimal (drop (2 + f) bytes))) (format_whole format digits rest is_format is)
    ∙ ap (λ xs. more_than (2 + length format) (run Hexadecimal xs)) past in
    omega (arith, len, more_reaches (2 + length format) (run Hexadecimal (digits ++ rest)) (length digits) is.some (run_reaches Hexadecimal digits rest is))
  where
    two : 2 + length format ≡ 1 + (1 + length format)
    two = omega arith

no_decimal : (xs : List ℕ) → decimal_len (48 ∷ 120 ∷ xs) ≡ 0
unfolding decimal_len int_len minus_len point_len
no_decimal xs = refl

hexadecimal_reaches : (text rest : List ℕ) → IsHexadecimal text → length text ≤ real_len (text ++ rest)
unfolding real_len
hexadecimal_reaches text rest is =
    let tail = is.format ++ (is.digits ++ rest) in
    let split : text ++ rest ≡ 48 ∷ 120 ∷ tail =
    ap (λ xs. xs ++ rest) is.is ∙ ap (λ xs. 48 ∷ 120 ∷ xs) (append_assoc is.format is.digits rest) in
    let len : real_len (text ++ rest) ≡ hexadecimal_len (48 ∷ 120 ∷ tail) =
    ap real_len split ∙ ap (λ n. cond (n == 0) (hexadecimal_len (48 ∷ 120 ∷ tail)) n) (no_decimal tail) in
    omega (arith, len, hexadecimal_at is.format is.digits rest is.is_format is.run, ap length is.is, length-append is.format is.digits)

real_decimal : (bytes : List ℕ) → decimal_len bytes ≤ real_len bytes
unfolding real_len
real_decimal bytes = go (decimal_len bytes == 0) refl
  where
    go : (t : Bool) → decimal_len bytes == 0 ≡ t → decimal_len bytes ≤ cond t (hexadecimal_len bytes) (decimal_len bytes)
    go true e = omega (arith, eqb-true (decimal_len bytes) 0 e)
    go false e = omega arith

name_reaches : (text rest : List ℕ) → IsWord text → (length text ≤ word_len (text ++ rest)) ⊎ (length text ≤ spelled_len (codes "...") (text ++ rest))
unfolding word_len spelled_len
name_reaches text rest is = go dots refl
  where
    bytes : List ℕ
    bytes = text ++ rest

    n : ℕ
    n = run Name bytes

    b : ℕ
    b = get_or bytes 0 0

    dots : Bool
    dots = bytes_eq (take n bytes) (codes "...")

    long : length text ≤ n
    long = run_reaches Name text rest is.run

    same : b ≡ get_or text 0 0
    same = get_or_append_left text rest 0 0 is.run.some

    no_minus : (t : Bool) → b == 45 ≡ t → t ≡ false
    no_minus true e = absurd (is.no_minus (sym same ∙ eqb-true b 45 e))
    no_minus false e = refl

    first : (is_digit b || b == 45) ≡ false
    first = or_from (is_digit b) (b == 45) (ap is_digit same ∙ is.no_digit) (no_minus (b == 45) refl)

    go : (t : Bool) → dots ≡ t → (length text ≤ word_len bytes) ⊎ (length text ≤ spelled_len (codes "...") bytes)
    go true e =
        let whole : take n bytes ≡ codes "..." = (bytes_eq-Decides (take n bytes) (codes "...")).0 e in
        let three : n ≡ 3 = sym (length-prefix_len (is_in Name) bytes) ∙ ap length whole in
        let dots : take 3 bytes ≡ codes "..." = ap (λ k. take k bytes) (sym three) ∙ whole in
        inr (omega (arith, long, three, ap {B = ℕ} (λ t. cond t (length (codes "...")) 0) ((bytes_eq-Decides (take 3 bytes) (codes "...")).1 dots)))
    go false e = inl (omega (arith, long, ap (λ t. cond t 0 n) (or_from (is_digit b || b == 45) dots first e)))

after_mark : (mark : ℕ) (text content rest : List ℕ) (len : List ℕ → ℕ) → text ≡ mark ∷ content → 1 + length content ≤ len (mark ∷ (content ++ rest)) → length text ≤ len (text ++ rest)
after_mark mark text content rest len is h = omega (arith, ap length is, ap (λ xs. len (xs ++ rest)) is, h)

as_spelled : (word text rest : List ℕ) → text ≡ word → length text ≤ spelled_len word (text ++ rest)
as_spelled word text rest is = omega (arith, ap length is, ap (λ xs. spelled_len word (xs ++ rest)) is, word_reaches word rest)

-- `..` and the like are words of a `...`, which is none: there the longest token is `...`
len_reaches : (kind : Kind) (text rest : List ℕ) → Spells kind text → (length text ≤ len_of kind (text ++ rest)) ⊎ (length text ≤ len_of Ellipsis (text ++ rest))
unfolding len_of
len_reaches Label text rest is = inl (omega (arith, ap length is.2, ap (λ xs. len_of Label (xs ++ rest)) is.2, label_reaches is.0 rest is.1))
len_reaches Int text rest is = inl (omega (arith, int_whole text rest is))
len_reaches Real text rest (inl decimal) = inl (omega (arith, decimal_reaches text rest decimal, real_decimal (text ++ rest)))
len_reaches Real text rest (inr hexadecimal) = inl (hexadecimal_reaches text rest hexadecimal)
len_reaches Word text rest is = name_reaches text rest is
len_reaches Str text rest is = inl (omega (arith, string_text text rest is))
len_reaches CStr text rest is = inl (after_mark 99 text is.0 rest (len_of CStr) is.2 (cstring_reaches is.0 rest is.1))
len_reaches Global text rest is = inl (after_mark 64 text is.0 rest (len_of Global) is.2 (marked_reaches 64 is.0 rest is.1))
len_reaches Local text rest is = inl (after_mark 37 text is.0 rest (len_of Local) is.2 (marked_reaches 37 is.0 rest is.1))
len_reaches Meta text rest is = inl (after_mark 33 text is.0 rest (len_of Meta) is.2 (marked_reaches 33 is.0 rest is.1))
len_reaches Attr text rest is = inl (after_mark 35 text is.0 rest (len_of Attr) is.2 (attribute_reaches is.0 rest is.1))
len_reaches Equal text rest is = inl (as_spelled (codes "=") text rest is)
len_reaches Comma text rest is = inl (as_spelled (codes ",") text rest is)
len_reaches Star text rest is = inl (as_spelled (codes "*") text rest is)
len_reaches OpenRound text rest is = inl (as_spelled (codes "(") text rest is)
len_reaches CloseRound text rest is = inl (as_spelled (codes ")") text rest is)
len_reaches OpenSquare text rest is = inl (as_spelled (codes "[") text rest is)
len_reaches CloseSquare text rest is = inl (as_spelled (codes "]") text rest is)
len_reaches OpenCurly text rest is = inl (as_spelled (codes "{") text rest is)
len_reaches CloseCurly text rest is = inl (as_spelled (codes "}") text rest is)
len_reaches OpenPacked text rest is = inl (as_spelled (codes "<{") text rest is)
len_reaches ClosePacked text rest is = inl (as_spelled (codes "}>") text rest is)
len_reaches Less text rest is = inl (as_spelled (codes "<") text rest is)
len_reaches Greater text rest is = inl (as_spelled (codes ">") text rest is)
len_reaches Bar text rest is = inl (as_spelled (codes "|") text rest is)
len_reaches Bang text rest is = inl (as_spelled (codes "!") text rest is)
len_reaches Ellipsis text rest is = inl (as_spelled (codes "...") text rest is)

pub reaches : (kind : Kind) (text rest : List ℕ) → Spells kind text → length text ≤ (longest_match (text ++ rest)).len
reaches kind text rest is = elim (len_reaches kind text rest is) [
  | inl own ↦ omega (arith, own, none_longer (text ++ rest) kind)
  | inr dots ↦ omega (arith, dots, none_longer (text ++ rest) Ellipsis)
]
