-- The longest token is no shorter than any text of a kind at the start.
use Rattle.std.proofs.Common.{◌≡◌, ℕ, suc, ◌+◌, ◌<◌, ◌≤◌, ◌⊎◌, inl, inr, ◌==◌, ◌&&◌, ◌||◌, not, true, false, List, [], ◌∷◌, ◌++◌, ap, append_assoc, arith, cond, drop, get_or, length, length-append, sym, take, refl, ◌∙◌}
use Rattle.std.proofs.lemmas.Bool.{eq-eqb}
use Rattle.std.proofs.lemmas.Slice.Eq.{bytes_eq-Decides}
use Rattle.std.proofs.Math.Seq.{drop-append_seam, get_or-append_seam, take-append_seam}
use Rattle.ir_lex.specs.Characters.{is_digit, is_in, run}
use Rattle.ir_lex.specs.Lengths.{attribute_len, content_len, cstring_len, decimal_len, exponent_len, int_len, label_len, marked_len, minus_len, more_than, point_len, sign_len, spelled_len, string_len}
use Rattle.ir_lex.specs.Spelling.{IsContent, IsDecimal, IsExponent, IsInt, IsRun, IsSign, IsString}
use Rattle.ir_lex.specs.declared.class.Class.TheVariants.{Digit}
use Rattle.ir_lex.proofs.Reaches.{content_exact, content_reaches, content_some, more_reaches, more_whole, no_first, positive, run_reaches, run_whole, string_some, string_text}

pub label_reaches : (content rest : List ℕ) → IsContent content → length (content ++ 58 ∷ []) ≤ label_len ((content ++ 58 ∷ []) ++ rest)
unfolding label_len
label_reaches content rest is =
    let bytes = content ++ 58 ∷ rest in
    let n : content_len bytes ≡ length content = content_exact content (58 ∷ rest) is refl in
    let colon : get_or bytes (length content) 0 ≡ 58 = get_or-append_seam content 58 rest 0 in
    let some = content_some content is in
    let all : label_len bytes ≡ length content + 1 =
    ap (λ k. cond (get_or bytes k 0 == 58 && not (k == 0)) (k + 1) 0) n
    ∙ ap (λ b. cond (b == 58 && not (length content == 0)) (length content + 1) 0) colon
    ∙ ap (λ t. cond (true && not t) (length content + 1) 0) (positive (length content) some) in
    omega (arith, ap label_len (append_assoc content (58 ∷ []) rest), all, length-append content (58 ∷ []))

same_mark : (mark n : ℕ) → cond (mark == mark) n 0 ≡ n
same_mark mark n = ap (λ t. cond t n 0) (eq-eqb mark mark refl)

pub marked_reaches : (mark : ℕ) (content rest : List ℕ) → IsContent content → 1 + length content ≤ marked_len mark (mark ∷ (content ++ rest))
unfolding marked_len
marked_reaches mark content rest is =
    omega (
      arith,
      same_mark mark (more_than 1 (content_len (content ++ rest))),
      more_reaches 1 (content_len (content ++ rest)) (length content) (content_some content is) (content_reaches content rest is),
    )

pub cstring_reaches : (string rest : List ℕ) → IsString string → 1 + length string ≤ cstring_len (99 ∷ (string ++ rest))
unfolding cstring_len
cstring_reaches string rest is =
    more_reaches 1 (string_len (string ++ rest)) (length string) (string_some string is) (omega (arith, string_text string rest is))

pub attribute_reaches : (digits rest : List ℕ) → IsRun Digit digits → 1 + length digits ≤ attribute_len (35 ∷ (digits ++ rest))
unfolding attribute_len
attribute_reaches digits rest is =
    more_reaches 1 (run Digit (digits ++ rest)) (length digits) is.some (run_reaches Digit digits rest is)

pub word_reaches : (word rest : List ℕ) → length word ≤ spelled_len word (word ++ rest)
unfolding spelled_len
word_reaches word rest =
    omega (arith, ap (λ t. cond t (length word) 0) ((bytes_eq-Decides (take (length word) (word ++ rest)) word).1 (take-append_seam word rest)))

int_some : (text : List ℕ) → IsInt text → 0 < length text
int_some text is = elim is.2 [
  | inl plain ↦ omega (arith, ap length plain, is.1.some)
  | inr minus ↦ omega (arith, ap length minus)
]

-- an integer, and digits that go on
pub int_whole : (text rest : List ℕ) → IsInt text → int_len (text ++ rest) ≡ length text + run Digit rest
unfolding int_len minus_len
int_whole text rest is = elim is.2 [
  | inl plain ↦ ap (λ xs. int_len (xs ++ rest)) plain ∙ unsigned ∙ ap (λ xs. length xs + run Digit rest) (sym plain)
  | inr minus ↦ ap (λ xs. int_len (xs ++ rest)) minus ∙ signed ∙ ap (λ xs. length xs + run Digit rest) (sym minus)
]
  where
    digits : List ℕ
    digits = is.0

    whole : run Digit (digits ++ rest) ≡ length digits + run Digit rest
    whole = run_whole (is_in Digit) digits rest is.1.all

    unsigned : int_len (digits ++ rest) ≡ length digits + run Digit rest
    unsigned = ap (λ t. more_than (cond t 1 0) (run Digit (drop (cond t 1 0) (digits ++ rest)))) (no_first Digit 45 digits rest refl is.1)
        ∙ more_whole 0 (run Digit (digits ++ rest)) (omega (arith, whole, is.1.some)) ∙ omega (arith, whole)

    signed : int_len (45 ∷ (digits ++ rest)) ≡ length (45 ∷ digits) + run Digit rest
    signed = more_whole 1 (run Digit (digits ++ rest)) (omega (arith, whole, is.1.some)) ∙ omega (arith, whole)

point_whole : (digits rest : List ℕ) → IsRun Digit digits → point_len (46 ∷ (digits ++ rest)) ≡ 1 + (length digits + run Digit rest)
unfolding point_len
point_whole digits rest is =
    let whole = run_whole (is_in Digit) digits rest is.all in
    more_whole 1 (run Digit (digits ++ rest)) (omega (arith, whole, is.some)) ∙ ap (λ k. 1 + k) whole

sign_whole : (sign digits rest : List ℕ) → IsSign sign → IsRun Digit digits → sign_len (sign ++ (digits ++ rest)) ≡ length sign
unfolding sign_len
sign_whole sign digits rest (inl none) is =
    ap (λ xs. sign_len (xs ++ (digits ++ rest))) none
    ∙ ap (λ t. cond (t || get_or (digits ++ rest) 0 0 == 45) 1 0) (no_first Digit 43 digits rest refl is)
    ∙ ap (λ t. cond t 1 0) (no_first Digit 45 digits rest refl is) ∙ ap length (sym none)
sign_whole sign digits rest (inr (inl plus)) is = ap (λ xs. sign_len (xs ++ (digits ++ rest))) plus ∙ ap length (sym plus)
sign_whole sign digits rest (inr (inr minus)) is = ap (λ xs. sign_len (xs ++ (digits ++ rest))) minus ∙ ap length (sym minus)

pub drop_next : (n b : ℕ) (xs : List ℕ) → drop (1 + n) (b ∷ xs) ≡ drop n xs
drop_next n b xs = ap (λ k. drop k (b ∷ xs)) next
  where
    next : 1 + n ≡ suc n
    next = omega arith

exponent_at : (letter : ℕ) (sign digits rest : List ℕ) → (letter == 101 || letter == 69) ≡ true → IsSign sign → IsRun Digit digits
    → 1 + length sign + length digits ≤ exponent_len (letter ∷ (sign ++ (digits ++ rest)))
unfolding exponent_len
exponent_at letter sign digits rest is_letter is_sign is =
    let bytes = letter ∷ (sign ++ (digits ++ rest)) in
    let len : exponent_len bytes ≡ more_than (1 + length sign) (run Digit (digits ++ rest)) =
    ap (λ t. cond t (more_than (1 + sign_len (sign ++ (digits ++ rest))) (run Digit (drop (1 + sign_len (sign ++ (digits ++ rest))) bytes))) 0) is_letter
    ∙ ap (λ s. more_than (1 + s) (run Digit (drop (1 + s) bytes))) (sign_whole sign digits rest is_sign is)
    ∙ ap (λ xs. more_than (1 + length sign) (run Digit xs)) (drop_next (length sign) letter (sign ++ (digits ++ rest)) ∙ drop-append_seam sign (digits ++ rest)) in
    omega (arith, len, more_reaches (1 + length sign) (run Digit (digits ++ rest)) (length digits) is.some (run_reaches Digit digits rest is))

letter_is : (letter : ℕ) → (letter ≡ 101) ⊎ (letter ≡ 69) → ((letter == 101 || letter == 69) ≡ true) × (is_digit letter ≡ false)
letter_is letter (inl is) = (ap (λ b. b == 101 || b == 69) is, ap is_digit is)
letter_is letter (inr is) = (ap (λ b. b == 101 || b == 69) is, ap is_digit is)

exponent_reaches : (text rest : List ℕ) → IsExponent text → (length text ≤ exponent_len (text ++ rest)) × (run Digit (text ++ rest) ≡ 0)
exponent_reaches text rest is =
    let letter = letter_is is.letter is.is_letter in
    let split : text ++ rest ≡ is.letter ∷ (is.sign ++ (is.digits ++ rest)) =
    ap (λ xs. xs ++ rest) is.is ∙ ap (λ xs. is.letter ∷ xs) (append_assoc is.sign is.digits rest) in (
      omega (arith, ap exponent_len split, exponent_at is.letter is.sign is.digits rest letter.0 is.is_sign is.run, ap length is.is, length-append is.sign is.digits),
      ap (run Digit) split ∙ ap (λ t. cond t (1 + run Digit (is.sign ++ (is.digits ++ rest))) 0) letter.1,
    )

decimal_at : (bytes : List ℕ) (k m : ℕ) → int_len bytes ≡ k → point_len (drop k bytes) ≡ m → 0 < k → 0 < m → decimal_len bytes ≡ k + m + exponent_len (drop (k + m) bytes)
unfolding decimal_len
decimal_at bytes k m is_k is_m some_k some_m =
    ap (λ n. cond (n == 0 || point_len (drop n bytes) == 0) 0 (n + point_len (drop n bytes) + exponent_len (drop (n + point_len (drop n bytes)) bytes))) is_k
    ∙ ap (λ n. cond (k == 0 || n == 0) 0 (k + n + exponent_len (drop (k + n) bytes))) is_m
    ∙ ap (λ t. cond (t || m == 0) 0 (k + m + exponent_len (drop (k + m) bytes))) (positive k some_k)
    ∙ ap (λ t. cond t 0 (k + m + exponent_len (drop (k + m) bytes))) (positive m some_m)

pub decimal_reaches : (text rest : List ℕ) → IsDecimal text → length text ≤ decimal_len (text ++ rest)
decimal_reaches text rest is =
    let more = is.exponent ++ rest in
    let bytes = is.whole ++ 46 ∷ (is.digits ++ more) in
    let split : text ++ rest ≡ bytes =
    ap (λ xs. xs ++ rest) is.is ∙ append_assoc is.whole (46 ∷ (is.digits ++ is.exponent)) rest
    ∙ ap (λ xs. is.whole ++ 46 ∷ xs) (append_assoc is.digits is.exponent rest) in
    let k : int_len bytes ≡ length is.whole = int_whole is.whole (46 ∷ (is.digits ++ more)) is.is_int ∙ omega arith in
    let m : point_len (drop (length is.whole) bytes) ≡ 1 + (length is.digits + run Digit more) =
    ap point_len (drop-append_seam is.whole (46 ∷ (is.digits ++ more))) ∙ point_whole is.digits more is.run in
    let len = decimal_at bytes (length is.whole) (1 + (length is.digits + run Digit more)) k m (int_some is.whole is.is_int) (omega arith) in
    let own : length text ≡ length is.whole + (1 + (length is.digits + length is.exponent)) =
    ap length is.is ∙ length-append is.whole (46 ∷ (is.digits ++ is.exponent)) ∙ omega (arith, length-append is.digits is.exponent) in
    elim is.is_exponent [
      | inl none ↦ omega (arith, own, ap length none, ap decimal_len split, len)
      | inr exponent ↦
          let reach = exponent_reaches is.exponent rest exponent in
          let at : drop (length is.whole + (1 + (length is.digits + run Digit more))) bytes ≡ more =
          ap (λ n. drop n bytes) (omega_end (length is.whole) (length is.digits) (run Digit more) reach.1 ∙ sym (length-append is.whole (46 ∷ is.digits)))
          ∙ ap (drop (length (is.whole ++ 46 ∷ is.digits))) (sym (append_assoc is.whole (46 ∷ is.digits) more))
          ∙ drop-append_seam (is.whole ++ 46 ∷ is.digits) more in
          omega (arith, own, ap decimal_len split, len, ap exponent_len at, reach.0, reach.1)
    ]
  where
    omega_end : (a b r : ℕ) → r ≡ 0 → a + (1 + (b + r)) ≡ a + suc b
    omega_end a b r none = omega (arith, none)
