-- The longest token is of a kind that may begin with the first byte.
use Rattle.std.proofs.Common.{◌≡◌, ℕ, ◌+◌, ◌<◌, ◌==◌, ◌&&◌, ◌||◌, not, nat_lt, Bool, true, false, List, [], ◌∷◌, ap, arith, codes, cond, drop, filter, get_or, length, map, sym, take, refl, ◌∙◌}
use Rattle.std.specs.Str.{bytes_eq}
use Rattle.std.proofs.lemmas.Bool.{agree_below_at, and_parts, both_ways, eq-eqb, eqb-true, false_from_ne_true, or_parts}
use Rattle.std.proofs.lemmas.List.{get_or-take}
use Rattle.std.proofs.lemmas.Slice.Eq.{bytes_eq-Decides}
use denote.Enum.Bare.{same_true}
use denote.Enum.Declared.{tag_of}
use Rattle.ir_lex.specs.Characters.{is_digit, is_name_byte, run}
use Rattle.ir_lex.specs.Lengths.{attribute_len, content_len, cstring_len, decimal_len, exponent_len, format_len, hexadecimal_len, int_len, label_len, len_of, marked_len, minus_len, more_than, point_len, real_len, spelled_len, string_len, word_len}
use Rattle.ir_lex.specs.Splitting.{longest_match, kinds, longer, longest_of}
use Rattle.ir_lex.specs.Starts.{begins_word, kinds_of, marks, none, start_of}
use Rattle.ir_lex.specs.contracts.kind.Kind.{the_type}
use Rattle.ir_lex.specs.declared.class.Class.TheVariants.{Digit, Hexadecimal, Quoted}
use Rattle.ir_lex.specs.declared.class.Class.TheVariants.{Name as NameByte}
use Rattle.ir_lex.specs.declared.longest_match.LongestMatch.{LongestMatch}
use Rattle.ir_lex.specs.declared.kind.Kind.{Kind}
use Rattle.ir_lex.specs.declared.kind.Kind.TheVariants as kind
use Rattle.ir_lex.specs.declared.start.Start.{Start}
use Rattle.ir_lex.specs.declared.start.Start.TheVariants.{Word, CWord, Single, Name}
use Rattle.ir_lex.proofs.Spelled.{taken}

-- whether a token of a kind may begin with a byte
begins : Kind → ℕ → Bool
begins kind.Label b = is_name_byte b || b == 34
begins kind.Int b = is_digit b || b == 45
begins kind.Real b = is_digit b || b == 45
begins kind.Word b = is_name_byte b && not (is_digit b || b == 45)
begins kind.Str b = b == 34
begins kind.CStr b = b == 99
begins kind.Global b = b == 64
begins kind.Local b = b == 37
begins kind.Meta b = b == 33
begins kind.Attr b = b == 35
begins kind.OpenPacked b = b == 60
begins kind.ClosePacked b = b == 125
begins kind.Ellipsis b = b == 46
begins kind.Equal b = b == 61
begins kind.Comma b = b == 44
begins kind.Star b = b == 42
begins kind.OpenRound b = b == 40
begins kind.CloseRound b = b == 41
begins kind.OpenSquare b = b == 91
begins kind.CloseSquare b = b == 93
begins kind.OpenCurly b = b == 123
begins kind.CloseCurly b = b == 125
begins kind.Less b = b == 60
begins kind.Greater b = b == 62
begins kind.Bar b = b == 124
begins kind.Bang b = b == 33

run_none : (bytes : List ℕ) → is_name_byte (get_or bytes 0 0) ≡ false → run NameByte bytes ≡ 0
run_none [] off = refl
run_none (b ∷ bytes) off = ap (λ t. cond t (1 + run NameByte bytes) 0) off

digits_none : (bytes : List ℕ) → is_digit (get_or bytes 0 0) ≡ false → run Digit bytes ≡ 0
digits_none [] off = refl
digits_none (b ∷ bytes) off = ap (λ t. cond t (1 + run Digit bytes) 0) off

pub string_none : (bytes : List ℕ) → get_or bytes 0 0 == 34 ≡ false → string_len bytes ≡ 0
unfolding string_len
string_none bytes off =
    ap (λ t. cond (t && get_or bytes (1 + run Quoted (drop 1 bytes)) 0 == 34) (2 + run Quoted (drop 1 bytes)) 0) off

content_none : (bytes : List ℕ) → (is_name_byte (get_or bytes 0 0) || get_or bytes 0 0 == 34) ≡ false → content_len bytes ≡ 0
unfolding content_len
content_none bytes off =
    let both = or_parts (is_name_byte (get_or bytes 0 0)) (get_or bytes 0 0 == 34) off in
    ap (λ n. cond (n == 0) (run NameByte bytes) n) (string_none bytes both.1) ∙ run_none bytes both.0

not_zero : (t : Bool) (n : ℕ) → cond (t && false) n 0 ≡ 0
not_zero true n = refl
not_zero false n = refl

label_none : (bytes : List ℕ) → (is_name_byte (get_or bytes 0 0) || get_or bytes 0 0 == 34) ≡ false → label_len bytes ≡ 0
unfolding label_len
label_none bytes off =
    ap (λ n. cond (get_or bytes n 0 == 58 && not (n == 0)) (n + 1) 0) (content_none bytes off)
    ∙ not_zero (get_or bytes 0 0 == 58) 1

int_none : (bytes : List ℕ) → (is_digit (get_or bytes 0 0) || get_or bytes 0 0 == 45) ≡ false → int_len bytes ≡ 0
unfolding int_len minus_len
int_none bytes off =
    let both = or_parts (is_digit (get_or bytes 0 0)) (get_or bytes 0 0 == 45) off in
    ap (λ t. more_than (cond t 1 0) (run Digit (drop (cond t 1 0) bytes))) both.1
    ∙ ap (λ n. more_than 0 n) (digits_none bytes both.0)

decimal_none : (bytes : List ℕ) → int_len bytes ≡ 0 → decimal_len bytes ≡ 0
unfolding decimal_len
decimal_none bytes is =
    ap (λ k. cond (k == 0 || point_len (drop k bytes) == 0) 0 (k + point_len (drop k bytes) + exponent_len (drop (k + point_len (drop k bytes)) bytes))) is

-- a byte that fails a test that another passes is not that one
not_that : (p : ℕ → Bool) (b that : ℕ) → p that ≡ true → p b ≡ false → b == that ≡ false
not_that p b that passes fails =
    false_from_ne_true (b == that) (λ e. both_ways (p b) fails (ap p (eqb-true b that e) ∙ passes))

hexadecimal_none : (bytes : List ℕ) → is_digit (get_or bytes 0 0) ≡ false → hexadecimal_len bytes ≡ 0
unfolding hexadecimal_len
hexadecimal_none bytes off =
    let k = 2 + format_len (drop 2 bytes) in
    ap (λ t. cond (t && get_or bytes 1 0 == 120) (more_than k (run Hexadecimal (drop k bytes))) 0)
    (not_that is_digit (get_or bytes 0 0) 48 refl off)

real_none : (bytes : List ℕ) → (is_digit (get_or bytes 0 0) || get_or bytes 0 0 == 45) ≡ false → real_len bytes ≡ 0
unfolding real_len
real_none bytes off =
    ap (λ n. cond (n == 0) (hexadecimal_len bytes) n) (decimal_none bytes (int_none bytes off))
    ∙ hexadecimal_none bytes (or_parts (is_digit (get_or bytes 0 0)) (get_or bytes 0 0 == 45) off).0

word_none : (bytes : List ℕ) → (is_name_byte (get_or bytes 0 0) && not (is_digit (get_or bytes 0 0) || get_or bytes 0 0 == 45)) ≡ false → word_len bytes ≡ 0
unfolding word_len
word_none bytes off = cases (is_name_byte b) (is_digit b || b == 45) refl refl off
  where
    b : ℕ
    b = get_or bytes 0 0

    dots : Bool
    dots = bytes_eq (take (run NameByte bytes) bytes) (codes "...")

    either : (t : Bool) → ◌≡◌ {A = ℕ} (cond t 0 0) 0
    either true = refl
    either false = refl

    cases : (name number : Bool) → is_name_byte b ≡ name → (is_digit b || b == 45) ≡ number → (name && not number) ≡ false
        → cond (is_digit b || b == 45 || dots) 0 (run NameByte bytes) ≡ 0
    cases name true is_n is_d h = ap (λ t. cond (t || dots) 0 (run NameByte bytes)) is_d
    cases true false is_n is_d h = absurd (both_ways true h refl)
    cases false false is_n is_d h =
        let numbers : Bool = is_digit b || b == 45 || dots in ap (λ n. cond numbers 0 n) (run_none bytes is_n) ∙ either numbers

spelled_none : (first : ℕ) (word bytes : List ℕ) → get_or bytes 0 0 == first ≡ false → spelled_len (first ∷ word) bytes ≡ 0
unfolding spelled_len
spelled_none first word bytes off =
    ap (λ t. cond t (length (first ∷ word)) 0) (false_from_ne_true (bytes_eq (take (length (first ∷ word)) bytes) (first ∷ word)) (λ e.
    both_ways (get_or bytes 0 0 == first) off (eq-eqb (get_or bytes 0 0) first
    (sym (get_or-take (length (first ∷ word)) bytes 0 0 (omega arith))
    ∙ ap (λ xs. get_or xs 0 0) ((bytes_eq-Decides (take (length (first ∷ word)) bytes) (first ∷ word)).0 e)))))

marked_none : (mark : ℕ) (bytes : List ℕ) → get_or bytes 0 0 == mark ≡ false → marked_len mark bytes ≡ 0
unfolding marked_len
marked_none mark bytes off = ap (λ t. cond t (more_than 1 (content_len (drop 1 bytes))) 0) off

cstring_none : (bytes : List ℕ) → get_or bytes 0 0 == 99 ≡ false → cstring_len bytes ≡ 0
unfolding cstring_len
cstring_none bytes off = ap (λ t. cond t (more_than 1 (string_len (drop 1 bytes))) 0) off

attribute_none : (bytes : List ℕ) → get_or bytes 0 0 == 35 ≡ false → attribute_len bytes ≡ 0
unfolding attribute_len
attribute_none bytes off = ap (λ t. cond t (more_than 1 (run Digit (drop 1 bytes))) 0) off

no_token : (kind : Kind) (bytes : List ℕ) → begins kind (get_or bytes 0 0) ≡ false → len_of kind bytes ≡ 0
unfolding len_of begins
no_token kind.Label bytes off = label_none bytes off
no_token kind.Int bytes off = int_none bytes off
no_token kind.Real bytes off = real_none bytes off
no_token kind.Word bytes off = word_none bytes off
no_token kind.Str bytes off = string_none bytes off
no_token kind.CStr bytes off = cstring_none bytes off
no_token kind.Global bytes off = marked_none 64 bytes off
no_token kind.Local bytes off = marked_none 37 bytes off
no_token kind.Meta bytes off = marked_none 33 bytes off
no_token kind.Attr bytes off = attribute_none bytes off
no_token kind.OpenPacked bytes off = spelled_none 60 (codes "{") bytes off
no_token kind.ClosePacked bytes off = spelled_none 125 (codes ">") bytes off
no_token kind.Ellipsis bytes off = spelled_none 46 (codes "..") bytes off
no_token kind.Equal bytes off = spelled_none 61 [] bytes off
no_token kind.Comma bytes off = spelled_none 44 [] bytes off
no_token kind.Star bytes off = spelled_none 42 [] bytes off
no_token kind.OpenRound bytes off = spelled_none 40 [] bytes off
no_token kind.CloseRound bytes off = spelled_none 41 [] bytes off
no_token kind.OpenSquare bytes off = spelled_none 91 [] bytes off
no_token kind.CloseSquare bytes off = spelled_none 93 [] bytes off
no_token kind.OpenCurly bytes off = spelled_none 123 [] bytes off
no_token kind.CloseCurly bytes off = spelled_none 125 [] bytes off
no_token kind.Less bytes off = spelled_none 60 [] bytes off
no_token kind.Greater bytes off = spelled_none 62 [] bytes off
no_token kind.Bar bytes off = spelled_none 124 [] bytes off
no_token kind.Bang bytes off = spelled_none 33 [] bytes off

-- a kind that has no token here changes nothing
longer_none : (best : LongestMatch) (kind : Kind) (bytes : List ℕ) → len_of kind bytes ≡ 0 → longer best kind bytes ≡ best
unfolding longer
longer_none best kind bytes off = ap (λ n. cond (nat_lt best.len n) (record { kind = kind; len = n }) best) off ∙ never best.len
  where
    never : (n : ℕ) → cond (nat_lt n 0) (record { kind = kind; len = 0 }) best ≡ best
    never n = ap (λ t. cond t (record { kind = kind; len = 0 }) best) (false_from_ne_true (nat_lt n 0) (λ e. absurd (grind (arith, e))))

left_out : (t : Bool) (kind : Kind) (few all : List Kind) (best : LongestMatch) (bytes : List ℕ) → begins kind (get_or bytes 0 0) ≡ t
    → ((start : LongestMatch) → longest_of few start bytes ≡ longest_of all start bytes)
    → longest_of (cond t (kind ∷ few) few) best bytes ≡ longest_of all (longer best kind bytes) bytes
unfolding longest_of
left_out true kind few all best bytes is same = same (longer best kind bytes)
left_out false kind few all best bytes is same =
    same best ∙ ap (λ start. longest_of all start bytes) (sym (longer_none best kind bytes (no_token kind bytes is)))

only_begun : (all : List Kind) (best : LongestMatch) (bytes : List ℕ) → longest_of (filter (λ kind. begins kind (get_or bytes 0 0)) all) best bytes ≡ longest_of all best bytes
unfolding longest_of
only_begun [] best bytes = refl
only_begun (kind ∷ all) best bytes =
    left_out (begins kind (get_or bytes 0 0)) kind (filter (λ kind. begins kind (get_or bytes 0 0)) all) all best bytes refl (λ start. only_begun all start bytes)

-- the start of each byte names the kinds that may begin with it, in their order
abbrev number : Kind → ℕ
number kind = tag_of the_type kind

same_kinds : (xs ys : List Kind) → map number xs ≡ map number ys → xs ≡ ys
same_kinds [] [] e = refl
same_kinds [] (y ∷ ys) e = absurd (omega (arith, ap length e))
same_kinds (x ∷ xs) [] e = absurd (omega (arith, ap length e))
same_kinds (x ∷ xs) (y ∷ ys) e =
    let first : x ≡ y = same_true the_type tt x y (eq-eqb (number x) (number y) (ap (λ ns. get_or ns 0 0) e)) in
    let rest : xs ≡ ys = same_kinds xs ys (ap (λ ns. drop 1 ns) e) in
    ap (λ k. k ∷ xs) first ∙ ap (λ ks. y ∷ ks) rest

is_one : Kind → Bool
is_one kind.Equal = true
is_one kind.Comma = true
is_one kind.Star = true
is_one kind.OpenRound = true
is_one kind.CloseRound = true
is_one kind.OpenSquare = true
is_one kind.CloseSquare = true
is_one kind.OpenCurly = true
is_one kind.Greater = true
is_one kind.Bar = true
is_one other = false

is_sound : Start → ℕ → Bool
is_sound Word b = begins_word b
is_sound CWord b = begins_word b
is_sound (Single kind) b = is_one kind && begins kind b
is_sound (Name kind) b = marks kind b
is_sound other b = true

is_right : ℕ → Bool
is_right b = bytes_eq (map number (kinds_of (start_of b))) (map number (filter (λ kind. begins kind b) kinds)) && is_sound (start_of b) b

right : (b : ℕ) → b < 256 → is_right b ≡ true
unfolding is_right is_sound is_one begins
right b fits = agree_below_at is_right (λ b. true) 256 b refl fits

-- what the first byte's start says
module _ (bytes : List ℕ) (byte : ℕ) (start : Start) (first : byte ≡ get_or bytes 0 0) (fits : byte < 256) (is : start ≡ start_of byte) where
  few : List Kind
  few = filter (λ kind. begins kind byte) kinds

  both : (bytes_eq (map number (kinds_of (start_of byte))) (map number (filter (λ kind. begins kind byte) kinds)) ≡ true) × (is_sound (start_of byte) byte ≡ true)
  unfolding is_right
  both = and_parts (bytes_eq (map number (kinds_of (start_of byte))) (map number (filter (λ kind. begins kind byte) kinds))) (is_sound (start_of byte) byte) (right byte fits)

  pub longest_by : longest_of (kinds_of start) none bytes ≡ longest_match bytes
  unfolding longest_match few
  longest_by =
      ap (λ s. longest_of (kinds_of s) none bytes) is
      ∙ ap (λ ks. longest_of ks none bytes) (same_kinds (kinds_of (start_of byte)) few ((bytes_eq-Decides (map number (kinds_of (start_of byte))) (map number few)).0 both.0))
      ∙ ap (λ b. longest_of (filter (λ kind. begins kind b) kinds) none bytes) first
      ∙ only_begun kinds none bytes

  sound : is_sound start (get_or bytes 0 0) ≡ true
  sound = ap (λ s. is_sound s (get_or bytes 0 0)) is ∙ ap (λ b. is_sound (start_of byte) b) (sym first) ∙ both.1

pub word_start : (bytes : List ℕ) (byte : ℕ) → byte ≡ get_or bytes 0 0 → byte < 256 → Word ≡ start_of byte → begins_word (get_or bytes 0 0) ≡ true
unfolding is_sound
word_start bytes byte first fits is = sound bytes byte Word first fits is

pub c_word_start : (bytes : List ℕ) (byte : ℕ) → byte ≡ get_or bytes 0 0 → byte < 256 → CWord ≡ start_of byte → begins_word (get_or bytes 0 0) ≡ true
unfolding is_sound
c_word_start bytes byte first fits is = sound bytes byte CWord first fits is

pub name_start : (bytes : List ℕ) (byte : ℕ) (kind : Kind) → byte ≡ get_or bytes 0 0 → byte < 256 → Name kind ≡ start_of byte → marks kind (get_or bytes 0 0) ≡ true
unfolding is_sound
name_start bytes byte kind first fits is = sound bytes byte (Name kind) first fits is

-- a token of one byte
one_byte : (b : ℕ) (bytes : List ℕ) → 0 < b → get_or bytes 0 0 == b ≡ true → spelled_len (b ∷ []) bytes ≡ 1
unfolding spelled_len
one_byte b bytes some is =
    ap (λ t. cond t 1 0) ((bytes_eq-Decides (take 1 bytes) (b ∷ [])).1 (taken bytes b 0 (eqb-true (get_or bytes 0 0) b is) some))

single_len : (kind : Kind) (bytes : List ℕ) → (is_one kind && begins kind (get_or bytes 0 0)) ≡ true → len_of kind bytes ≡ 1
unfolding len_of begins is_one
single_len kind.Equal bytes is = one_byte 61 bytes (omega arith) is
single_len kind.Comma bytes is = one_byte 44 bytes (omega arith) is
single_len kind.Star bytes is = one_byte 42 bytes (omega arith) is
single_len kind.OpenRound bytes is = one_byte 40 bytes (omega arith) is
single_len kind.CloseRound bytes is = one_byte 41 bytes (omega arith) is
single_len kind.OpenSquare bytes is = one_byte 91 bytes (omega arith) is
single_len kind.CloseSquare bytes is = one_byte 93 bytes (omega arith) is
single_len kind.OpenCurly bytes is = one_byte 123 bytes (omega arith) is
single_len kind.Greater bytes is = one_byte 62 bytes (omega arith) is
single_len kind.Bar bytes is = one_byte 124 bytes (omega arith) is
single_len kind.Label bytes is = absurd (both_ways false refl is)
single_len kind.Int bytes is = absurd (both_ways false refl is)
single_len kind.Real bytes is = absurd (both_ways false refl is)
single_len kind.Word bytes is = absurd (both_ways false refl is)
single_len kind.Str bytes is = absurd (both_ways false refl is)
single_len kind.CStr bytes is = absurd (both_ways false refl is)
single_len kind.Global bytes is = absurd (both_ways false refl is)
single_len kind.Local bytes is = absurd (both_ways false refl is)
single_len kind.Meta bytes is = absurd (both_ways false refl is)
single_len kind.Attr bytes is = absurd (both_ways false refl is)
single_len kind.CloseCurly bytes is = absurd (both_ways false refl is)
single_len kind.OpenPacked bytes is = absurd (both_ways false refl is)
single_len kind.ClosePacked bytes is = absurd (both_ways false refl is)
single_len kind.Less bytes is = absurd (both_ways false refl is)
single_len kind.Bang bytes is = absurd (both_ways false refl is)
single_len kind.Ellipsis bytes is = absurd (both_ways false refl is)

longest_single : (kind : Kind) (bytes : List ℕ) → len_of kind bytes ≡ 1 → longest_of (kind ∷ []) none bytes ≡ record { kind = kind; len = 1 }
unfolding longest_of longer
longest_single kind bytes is = ap (λ n. cond (nat_lt 0 n) (record { kind = kind; len = n }) none) is

pub single_match : (bytes : List ℕ) (byte : ℕ) (kind : Kind) → byte ≡ get_or bytes 0 0 → byte < 256 → Single kind ≡ start_of byte → record { kind = kind; len = 1 } ≡ longest_match bytes
unfolding is_sound
single_match bytes byte kind first fits is =
    sym (longest_single kind bytes (single_len kind bytes (sound bytes byte (Single kind) first fits is)))
    ∙ longest_by bytes byte (Single kind) first fits is
