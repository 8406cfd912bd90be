-- Each token is spelled as its kind says.
use Rattle.std.proofs.Common.{◌≡◌, ℕ, ◌+◌, ◌<◌, ◌⊎◌, inl, inr, ◌==◌, ◌&&◌, ◌||◌, not, Bool, true, false, List, [], ◌∷◌, ◌++◌, ap, append_assoc, arith, codes, cond, drop, get_or, length, subst, sym, take, refl, ◌∙◌}
use Rattle.std.specs.Str.{bytes_eq}
use Rattle.std.proofs.lemmas.Bool.{and_parts, both_ways, cases_lt, eq-eqb, eqb-true, or_cases, or_parts}
use Rattle.std.proofs.lemmas.List.{drop-drop, get_or-take, take_more}
use Rattle.std.proofs.lemmas.Slice.Eq.{bytes_eq-Decides}
use Rattle.std.proofs.lemmas.Grind.{get_or_after_one}
use Rattle.std.proofs.Math.Seq.{take-add}
use Rattle.ir_lex.specs.Characters.{is_digit, run}
use Rattle.ir_lex.specs.Lengths.{attribute_len, content_len, cstring_len, decimal_len, exponent_len, format_len, hexadecimal_len, int_len, label_len, len_of, more_than, point_len, real_len, sign_len, spelled_len, string_len, word_len}
use Rattle.ir_lex.specs.Spelling.{IsDecimal, IsExponent, IsFormat, IsHexadecimal, IsRun, IsSign, IsWord, Spells}
use Rattle.ir_lex.specs.declared.class.Class.TheVariants.{Digit, Hexadecimal, Name}
use Rattle.ir_lex.specs.declared.kind.Kind.{Kind}
use Rattle.ir_lex.specs.declared.kind.Kind.TheVariants.{Label, Int, Real, Word, Str, CStr, Global, Local, Meta, Attr, Equal, Comma, Star, OpenRound, CloseRound, OpenSquare, CloseSquare, OpenCurly, CloseCurly, OpenPacked, ClosePacked, Less, Greater, Bar, Bang, Ellipsis}
use Rattle.ir_lex.proofs.Spelled.{content_is, guarded, inside_at, int_is, marked_is, more_is, run_is, string_is, taken, unguarded}

label_is : (bytes : List ℕ) → 0 < label_len bytes → Spells Label (take (label_len bytes) bytes)
unfolding label_len
label_is bytes h =
    let n = content_len bytes in
    let g = guarded (get_or bytes n 0 == 58 && not (n == 0)) (n + 1) h in
    let both = and_parts (get_or bytes n 0 == 58) (not (n == 0)) g.0 in
    let colon = eqb-true (get_or bytes n 0) 58 both.0 in
    let some : 0 < n = grind (arith, both.1) in (
      take n bytes,
      content_is bytes some,
      ap (λ k. take k bytes) g.1 ∙ take_more bytes n 0 (inside_at bytes n 58 colon (omega arith)) ∙ ap (λ b. take n bytes ++ b ∷ []) colon,
    )

cstring_is : (bytes : List ℕ) → 0 < cstring_len bytes → Spells CStr (take (cstring_len bytes) bytes)
unfolding cstring_len
cstring_is bytes h =
    let n = string_len (drop 1 bytes) in
    let g = guarded (get_or bytes 0 0 == 99) (more_than 1 n) h in
    let m = more_is 1 n (subst (λ k. 0 < k) g.1 h) in (
      take n (drop 1 bytes),
      string_is (drop 1 bytes) m.0,
      ap (λ k. take k bytes) (g.1 ∙ m.1) ∙ taken bytes 99 n (eqb-true _ _ g.0) (omega arith),
    )

attribute_is : (bytes : List ℕ) → 0 < attribute_len bytes → Spells Attr (take (attribute_len bytes) bytes)
unfolding attribute_len
attribute_is bytes h =
    let n = run Digit (drop 1 bytes) in
    let g = guarded (get_or bytes 0 0 == 35) (more_than 1 n) h in
    let m = more_is 1 n (subst (λ k. 0 < k) g.1 h) in (
      take n (drop 1 bytes),
      run_is Digit (drop 1 bytes) m.0,
      ap (λ k. take k bytes) (g.1 ∙ m.1) ∙ taken bytes 35 n (eqb-true _ _ g.0) (omega arith),
    )

word_is : (bytes : List ℕ) → 0 < word_len bytes → IsWord (take (word_len bytes) bytes)
unfolding word_len
word_is bytes h =
    let n = run Name bytes in
    let b = get_or bytes 0 0 in
    let dots = bytes_eq (take n bytes) (codes "...") in
    let g = unguarded (is_digit b || b == 45 || dots) n h in
    let some : 0 < n = subst (λ k. 0 < k) g.1 h in
    let early = or_parts (is_digit b || b == 45) dots g.0 in
    let first = or_parts (is_digit b) (b == 45) early.0 in
    let same : get_or (take n bytes) 0 0 ≡ b = get_or-take n bytes 0 0 some in
    subst (λ k. IsWord (take k bytes)) (sym g.1) (record {
      run = run_is Name bytes some;
      no_digit = ap is_digit same ∙ first.0;
      no_minus = λ e. both_ways (b == 45) first.1 (eq-eqb b 45 (sym same ∙ e));
      no_dots = λ e. both_ways dots early.1 ((bytes_eq-Decides (take n bytes) (codes "...")).1 e);
    })

word_as : (word bytes : List ℕ) → 0 < spelled_len word bytes → take (spelled_len word bytes) bytes ≡ word
unfolding spelled_len
word_as word bytes h =
    let g = guarded (bytes_eq (take (length word) bytes) word) (length word) h in
    ap (λ k. take k bytes) g.1 ∙ (bytes_eq-Decides (take (length word) bytes) word).0 g.0

sign_is : (bytes : List ℕ) → IsSign (take (sign_len bytes) bytes)
unfolding sign_len
sign_is bytes = cases (get_or bytes 0 0 == 43) (get_or bytes 0 0 == 45) refl refl
  where
    cases : (t u : Bool) → get_or bytes 0 0 == 43 ≡ t → get_or bytes 0 0 == 45 ≡ u → IsSign (take (cond (t || u) 1 0) bytes)
    cases true u plus minus = inr (inl (taken bytes 43 0 (eqb-true _ _ plus) (omega arith)))
    cases false true plus minus = inr (inr (taken bytes 45 0 (eqb-true _ _ minus) (omega arith)))
    cases false false plus minus = inl refl

exponent_is : (bytes : List ℕ) → 0 < exponent_len bytes → IsExponent (take (exponent_len bytes) bytes)
unfolding exponent_len
exponent_is bytes h =
    let b = get_or bytes 0 0 in
    let tail = drop 1 bytes in
    let s = sign_len tail in
    let d = run Digit (drop (1 + s) bytes) in
    let g = guarded (b == 101 || b == 69) (more_than (1 + s) d) h in
    let m = more_is (1 + s) d (subst (λ k. 0 < k) g.1 h) in
    let letter : (b ≡ 101) ⊎ (b ≡ 69) = elim (or_cases (b == 101) (b == 69) g.0) [
      | inl e ↦ inl (eqb-true b 101 e)
      | inr e ↦ inr (eqb-true b 69 e)
    ] in
    let has : 0 < b = elim letter [ inl e ↦ omega (arith, e) | inr e ↦ omega (arith, e) ] in
    record {
      letter = b;
      sign = take s tail;
      digits = take d (drop (1 + s) bytes);
      is_letter = letter;
      is_sign = sign_is tail;
      run = run_is Digit (drop (1 + s) bytes) m.0;
      is = ap (λ k. take k bytes) (g.1 ∙ m.1) ∙ take-add (1 + s) d bytes
          ∙ ap (λ xs. xs ++ take d (drop (1 + s) bytes)) (taken bytes b s refl has);
    }

point_is : (bytes : List ℕ) → 0 < point_len bytes → (digits : List ℕ) × IsRun Digit digits × (take (point_len bytes) bytes ≡ 46 ∷ digits)
unfolding point_len
point_is bytes h =
    let n = run Digit (drop 1 bytes) in
    let g = guarded (get_or bytes 0 0 == 46) (more_than 1 n) h in
    let m = more_is 1 n (subst (λ k. 0 < k) g.1 h) in (
      take n (drop 1 bytes),
      run_is Digit (drop 1 bytes) m.0,
      ap (λ k. take k bytes) (g.1 ∙ m.1) ∙ taken bytes 46 n (eqb-true _ _ g.0) (omega arith),
    )

some_exponent : (bytes : List ℕ) → (take (exponent_len bytes) bytes ≡ []) ⊎ IsExponent (take (exponent_len bytes) bytes)
some_exponent bytes = elim (cases_lt 0 (exponent_len bytes)) [
  | inl some ↦ inr (exponent_is bytes some)
  | inr none ↦ let is : exponent_len bytes ≡ 0 = omega (arith, none) in inl (ap (λ k. take k bytes) is)
]

decimal_is : (bytes : List ℕ) → 0 < decimal_len bytes → IsDecimal (take (decimal_len bytes) bytes)
unfolding decimal_len
decimal_is bytes h =
    let k = int_len bytes in
    let m = point_len (drop k bytes) in
    let rest = drop (k + m) bytes in
    let e = exponent_len rest in
    let g = unguarded (k == 0 || m == 0) (k + m + e) h in
    let both = or_parts (k == 0) (m == 0) g.0 in
    let whole : 0 < k = grind (arith, both.0) in
    let point : 0 < m = grind (arith, both.1) in
    let fraction = point_is (drop k bytes) point in
    record {
      whole = take k bytes;
      digits = fraction.0;
      exponent = take e rest;
      is_int = int_is bytes whole;
      run = fraction.1;
      is_exponent = some_exponent rest;
      is = ap (λ n. take n bytes) g.1 ∙ take-add (k + m) e bytes
          ∙ ap (λ xs. xs ++ take e rest) (take-add k m bytes ∙ ap (λ xs. take k bytes ++ xs) fraction.2)
          ∙ append_assoc (take k bytes) (46 ∷ fraction.0) (take e rest);
    }

format_is : (bytes : List ℕ) → IsFormat (take (format_len bytes) bytes)
unfolding format_len
format_is bytes = cases (b == 75) (b == 76) (b == 77) (b == 72) (b == 82) refl refl refl refl refl
  where
    b : ℕ
    b = get_or bytes 0 0

    one : (mark : ℕ) → 0 < mark → b == mark ≡ true → take 1 bytes ≡ mark ∷ []
    one mark some is = taken bytes mark 0 (eqb-true b mark is) some

    cases : (k l m h r : Bool) → b == 75 ≡ k → b == 76 ≡ l → b == 77 ≡ m → b == 72 ≡ h → b == 82 ≡ r
        → IsFormat (take (cond (k || l || m || h || r) 1 0) bytes)
    cases true l m h r is_k is_l is_m is_h is_r = inr (inl (one 75 (omega arith) is_k))
    cases false true m h r is_k is_l is_m is_h is_r = inr (inr (inl (one 76 (omega arith) is_l)))
    cases false false true h r is_k is_l is_m is_h is_r = inr (inr (inr (inl (one 77 (omega arith) is_m))))
    cases false false false true r is_k is_l is_m is_h is_r = inr (inr (inr (inr (inl (one 72 (omega arith) is_h)))))
    cases false false false false true is_k is_l is_m is_h is_r = inr (inr (inr (inr (inr (one 82 (omega arith) is_r)))))
    cases false false false false false is_k is_l is_m is_h is_r = inl refl

hexadecimal_is : (bytes : List ℕ) → 0 < hexadecimal_len bytes → IsHexadecimal (take (hexadecimal_len bytes) bytes)
unfolding hexadecimal_len
hexadecimal_is bytes h =
    let f = format_len (drop 2 bytes) in
    let k = 2 + f in
    let d = run Hexadecimal (drop k bytes) in
    let g = guarded (get_or bytes 0 0 == 48 && get_or bytes 1 0 == 120) (more_than k d) h in
    let m = more_is k d (subst (λ n. 0 < n) g.1 h) in
    let both = and_parts (get_or bytes 0 0 == 48) (get_or bytes 1 0 == 120) g.0 in
    let second : get_or (drop 1 bytes) 0 0 ≡ 120 = get_or_after_one bytes 0 0 ∙ eqb-true _ _ both.1 in
    let split : k ≡ 1 + (1 + f) = omega arith in
    record {
      format = take f (drop 2 bytes);
      digits = take d (drop k bytes);
      is_format = format_is (drop 2 bytes);
      run = run_is Hexadecimal (drop k bytes) m.0;
      is = ap (λ n. take n bytes) (g.1 ∙ m.1) ∙ take-add k d bytes
          ∙ ap (λ xs. xs ++ take d (drop k bytes))
          (ap (λ n. take n bytes) split ∙ taken bytes 48 (1 + f) (eqb-true _ _ both.0) (omega arith)
          ∙ ap (λ xs. 48 ∷ xs) (taken (drop 1 bytes) 120 f second (omega arith)
          ∙ ap (λ xs. 120 ∷ take f xs) (drop-drop 1 1 bytes)));
    }

real_is : (bytes : List ℕ) → 0 < real_len bytes → Spells Real (take (real_len bytes) bytes)
unfolding real_len
real_is bytes h = cases (decimal_len bytes == 0) refl h
  where
    cases : (t : Bool) → decimal_len bytes == 0 ≡ t → 0 < cond t (hexadecimal_len bytes) (decimal_len bytes)
        → Spells Real (take (cond t (hexadecimal_len bytes) (decimal_len bytes)) bytes)
    cases true is some = inr (hexadecimal_is bytes some)
    cases false is some = inl (decimal_is bytes some)

pub spelled : (kind : Kind) (bytes : List ℕ) → 0 < len_of kind bytes → Spells kind (take (len_of kind bytes) bytes)
unfolding len_of
spelled Label bytes h = label_is bytes h
spelled Int bytes h = int_is bytes h
spelled Real bytes h = real_is bytes h
spelled Word bytes h = word_is bytes h
spelled Str bytes h = string_is bytes h
spelled CStr bytes h = cstring_is bytes h
spelled Global bytes h = marked_is 64 bytes (omega arith) h
spelled Local bytes h = marked_is 37 bytes (omega arith) h
spelled Meta bytes h = marked_is 33 bytes (omega arith) h
spelled Attr bytes h = attribute_is bytes h
spelled Equal bytes h = word_as (codes "=") bytes h
spelled Comma bytes h = word_as (codes ",") bytes h
spelled Star bytes h = word_as (codes "*") bytes h
spelled OpenRound bytes h = word_as (codes "(") bytes h
spelled CloseRound bytes h = word_as (codes ")") bytes h
spelled OpenSquare bytes h = word_as (codes "[") bytes h
spelled CloseSquare bytes h = word_as (codes "]") bytes h
spelled OpenCurly bytes h = word_as (codes "{") bytes h
spelled CloseCurly bytes h = word_as (codes "}") bytes h
spelled OpenPacked bytes h = word_as (codes "<{") bytes h
spelled ClosePacked bytes h = word_as (codes "}>") bytes h
spelled Less bytes h = word_as (codes "<") bytes h
spelled Greater bytes h = word_as (codes ">") bytes h
spelled Bar bytes h = word_as (codes "|") bytes h
spelled Bang bytes h = word_as (codes "!") bytes h
spelled Ellipsis bytes h = word_as (codes "...") bytes h
