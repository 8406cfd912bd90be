-- A token ends within the text.
use Rattle.std.proofs.Common.{◌≡◌, ℕ, zero, suc, ◌+◌, ◌<◌, ◌≤◌, inl, inr, ◌==◌, ◌&&◌, not, Bool, true, false, List, ap, arith, codes, cond, drop, get_or, length, take, refl}
use Rattle.std.specs.Str.{bytes_eq}
use Rattle.std.proofs.lemmas.Bool.{cases_lt, eqb-true}
use Rattle.std.proofs.lemmas.List.{length-drop, length-take}
use Rattle.std.proofs.lemmas.List.Sums.{prefix_len-le-length}
use Rattle.std.proofs.lemmas.Slice.Eq.{bytes_eq-Decides}
use Rattle.ir_lex.specs.Characters.{is_blank, is_in, run}
use Rattle.ir_lex.specs.Lengths.{attribute_len, content_len, cstring_len, decimal_len, exponent_len, format_len, hexadecimal_len, int_len, label_len, len_of, marked_len, minus_len, more_than, point_len, real_len, sign_len, spelled_len, string_len, word_len}
use Rattle.ir_lex.specs.Splitting.{longest_match, gap_len}
use Rattle.ir_lex.specs.declared.class.Class.{Class}
use Rattle.ir_lex.specs.declared.class.Class.TheVariants.{Comment, Digit, Hexadecimal, Name, Quoted}
use Rattle.ir_lex.specs.declared.kind.Kind.{Kind}
use Rattle.ir_lex.specs.declared.kind.Kind.TheVariants.{Label, Int, Real, Word, Str, CStr, Global, Local, Meta, Attr, Equal, Comma, Star, OpenRound, CloseRound, OpenSquare, CloseSquare, OpenCurly, CloseCurly, OpenPacked, ClosePacked, Less, Greater, Bar, Bang, Ellipsis}
use Rattle.ir_lex.proofs.Longest.{len_is_own}
use Rattle.ir_lex.proofs.Spelled.{inside_at}

at_most_if : (t : Bool) (n m : ℕ) → n ≤ m → cond t n 0 ≤ m
at_most_if true n m h = h
at_most_if false n m h = omega arith

at_most_unless : (t : Bool) (n m : ℕ) → n ≤ m → cond t 0 n ≤ m
at_most_unless true n m h = omega arith
at_most_unless false n m h = h

-- what is measured behind the first k bytes
more_within : (k n : ℕ) (bytes : List ℕ) → n ≤ length (drop k bytes) → more_than k n ≤ length bytes
more_within k zero bytes h = omega arith
more_within k (suc n) bytes h = at_most_unless (suc n == 0) (k + suc n) (length bytes) (omega (arith, h, length-drop k bytes))

run_within : (class : Class) (bytes : List ℕ) → run class bytes ≤ length bytes
run_within class bytes = prefix_len-le-length (is_in class) bytes

string_within : (bytes : List ℕ) → string_len bytes ≤ length bytes
unfolding string_len
string_within bytes = cases (get_or bytes 0 0 == 34) (get_or bytes (1 + n) 0 == 34) refl
  where
    n : ℕ
    n = run Quoted (drop 1 bytes)

    cases : (opened closed : Bool) → get_or bytes (1 + n) 0 == 34 ≡ closed → cond (opened && closed) (2 + n) 0 ≤ length bytes
    cases false closed is = omega arith
    cases true false is = omega arith
    cases true true is = omega (arith, inside_at bytes (1 + n) 34 (eqb-true (get_or bytes (1 + n) 0) 34 is) (omega arith))

content_within : (bytes : List ℕ) → content_len bytes ≤ length bytes
unfolding content_len
content_within bytes = cases (string_len bytes == 0)
  where
    cases : (t : Bool) → cond t (run Name bytes) (string_len bytes) ≤ length bytes
    cases true = run_within Name bytes
    cases false = string_within bytes

label_within : (bytes : List ℕ) → label_len bytes ≤ length bytes
unfolding label_len
label_within bytes = cases (get_or bytes n 0 == 58) (not (n == 0)) refl
  where
    n : ℕ
    n = content_len bytes

    cases : (colon some : Bool) → get_or bytes n 0 == 58 ≡ colon → cond (colon && some) (n + 1) 0 ≤ length bytes
    cases false some is = omega arith
    cases true false is = omega arith
    cases true true is = omega (arith, inside_at bytes n 58 (eqb-true (get_or bytes n 0) 58 is) (omega arith))

int_within : (bytes : List ℕ) → int_len bytes ≤ length bytes
unfolding int_len
int_within bytes = more_within (minus_len bytes) (run Digit (drop (minus_len bytes) bytes)) bytes (run_within Digit (drop (minus_len bytes) bytes))

point_within : (bytes : List ℕ) → point_len bytes ≤ length bytes
unfolding point_len
point_within bytes =
    at_most_if (get_or bytes 0 0 == 46) (more_than 1 (run Digit (drop 1 bytes))) (length bytes) (more_within 1 (run Digit (drop 1 bytes)) bytes (run_within Digit (drop 1 bytes)))

exponent_within : (bytes : List ℕ) → exponent_len bytes ≤ length bytes
unfolding exponent_len
exponent_within bytes =
    let k = 1 + sign_len (drop 1 bytes) in
    at_most_if _ (more_than k (run Digit (drop k bytes))) (length bytes) (more_within k (run Digit (drop k bytes)) bytes (run_within Digit (drop k bytes)))

decimal_within : (bytes : List ℕ) → decimal_len bytes ≤ length bytes
unfolding decimal_len
decimal_within bytes =
    let k = int_len bytes in
    let m = point_len (drop k bytes) in
    at_most_unless _ (k + m + exponent_len (drop (k + m) bytes)) (length bytes)
    (omega (arith, int_within bytes, point_within (drop k bytes), length-drop k bytes, exponent_within (drop (k + m) bytes), length-drop (k + m) bytes))

hexadecimal_within : (bytes : List ℕ) → hexadecimal_len bytes ≤ length bytes
unfolding hexadecimal_len
hexadecimal_within bytes =
    let k = 2 + format_len (drop 2 bytes) in
    at_most_if _ (more_than k (run Hexadecimal (drop k bytes))) (length bytes) (more_within k (run Hexadecimal (drop k bytes)) bytes (run_within Hexadecimal (drop k bytes)))

real_within : (bytes : List ℕ) → real_len bytes ≤ length bytes
unfolding real_len
real_within bytes = cases (decimal_len bytes == 0)
  where
    cases : (t : Bool) → cond t (hexadecimal_len bytes) (decimal_len bytes) ≤ length bytes
    cases true = hexadecimal_within bytes
    cases false = decimal_within bytes

word_within : (bytes : List ℕ) → word_len bytes ≤ length bytes
unfolding word_len
word_within bytes = at_most_unless _ (run Name bytes) (length bytes) (run_within Name bytes)

cstring_within : (bytes : List ℕ) → cstring_len bytes ≤ length bytes
unfolding cstring_len
cstring_within bytes =
    at_most_if _ (more_than 1 (string_len (drop 1 bytes))) (length bytes) (more_within 1 (string_len (drop 1 bytes)) bytes (string_within (drop 1 bytes)))

marked_within : (mark : ℕ) (bytes : List ℕ) → marked_len mark bytes ≤ length bytes
unfolding marked_len
marked_within mark bytes =
    at_most_if _ (more_than 1 (content_len (drop 1 bytes))) (length bytes) (more_within 1 (content_len (drop 1 bytes)) bytes (content_within (drop 1 bytes)))

attribute_within : (bytes : List ℕ) → attribute_len bytes ≤ length bytes
unfolding attribute_len
attribute_within bytes =
    at_most_if _ (more_than 1 (run Digit (drop 1 bytes))) (length bytes) (more_within 1 (run Digit (drop 1 bytes)) bytes (run_within Digit (drop 1 bytes)))

spelled_within : (word bytes : List ℕ) → spelled_len word bytes ≤ length bytes
unfolding spelled_len
spelled_within word bytes = cases (bytes_eq (take (length word) bytes) word) refl
  where
    cases : (t : Bool) → bytes_eq (take (length word) bytes) word ≡ t → cond t (length word) 0 ≤ length bytes
    cases true is = omega (arith, ap length ((bytes_eq-Decides (take (length word) bytes) word).0 is), length-take (length word) bytes)
    cases false is = omega arith

len_within : (kind : Kind) (bytes : List ℕ) → len_of kind bytes ≤ length bytes
unfolding len_of
len_within Label bytes = label_within bytes
len_within Int bytes = int_within bytes
len_within Real bytes = real_within bytes
len_within Word bytes = word_within bytes
len_within Str bytes = string_within bytes
len_within CStr bytes = cstring_within bytes
len_within Global bytes = marked_within 64 bytes
len_within Local bytes = marked_within 37 bytes
len_within Meta bytes = marked_within 33 bytes
len_within Attr bytes = attribute_within bytes
len_within Equal bytes = spelled_within (codes "=") bytes
len_within Comma bytes = spelled_within (codes ",") bytes
len_within Star bytes = spelled_within (codes "*") bytes
len_within OpenRound bytes = spelled_within (codes "(") bytes
len_within CloseRound bytes = spelled_within (codes ")") bytes
len_within OpenSquare bytes = spelled_within (codes "[") bytes
len_within CloseSquare bytes = spelled_within (codes "]") bytes
len_within OpenCurly bytes = spelled_within (codes "{") bytes
len_within CloseCurly bytes = spelled_within (codes "}") bytes
len_within OpenPacked bytes = spelled_within (codes "<{") bytes
len_within ClosePacked bytes = spelled_within (codes "}>") bytes
len_within Less bytes = spelled_within (codes "<") bytes
len_within Greater bytes = spelled_within (codes ">") bytes
len_within Bar bytes = spelled_within (codes "|") bytes
len_within Bang bytes = spelled_within (codes "!") bytes
len_within Ellipsis bytes = spelled_within (codes "...") bytes

pub longest_within : (bytes : List ℕ) → (longest_match bytes).len ≤ length bytes
longest_within bytes = elim (cases_lt 0 (longest_match bytes).len) [
  | inl some ↦ omega (arith, len_is_own bytes some, len_within (longest_match bytes).kind bytes)
  | inr none ↦ omega (arith, none)
]

pub gap_within : (bytes : List ℕ) → 0 < length bytes → gap_len bytes ≤ length bytes
unfolding gap_len
gap_within bytes some = cases (is_blank (get_or bytes 0 0)) (get_or bytes 0 0 == 59)
  where
    cases : (blank comment : Bool) → cond blank 1 (cond comment (run Comment bytes) 0) ≤ length bytes
    cases true comment = omega (arith, some)
    cases false true = run_within Comment bytes
    cases false false = omega arith
