-- A symbol is no label of a block, also where it is read off a line.
use Rattle.std.proofs.Common.{◌≡◌, ◌&&◌, ◌==◌, ◌++◌, ◌∷◌, [], ℕ, List, Bool, true, false, not, cond, nat_eq, codes, drop, inl, inr, refl, ap, sym, ◌∙◌, arith}
use Rattle.std.specs.List.{list_all, starts_with}
use Rattle.std.proofs.lemmas.Bool.{and_from, and_parts, false_from_ne_true}
use Rattle.std.proofs.lemmas.Bool.Decides.{Decides-eqb, nat_tests}
use Rattle.std.proofs.lemmas.List.Folds.{list_all-append}
use Rattle.std.proofs.lemmas.Slice.Eq.{starts_is}
use Rattle.rv_isa.specs.Symbol.{IsLabel, is_digit, is_number, is_symbol_byte, spelled}
use Rattle.asm_line.proofs.SymbolLemmas.{how_spelled}
use Rattle.asm_print.specs.Symbols.{after_leading, is_label, is_number_pair, leading}

leading_whole : (test : ℕ → Bool) (bytes : List ℕ) → leading test bytes ++ after_leading test bytes ≡ bytes
leading_whole test [] = refl
leading_whole test (b ∷ bytes) = by_test (test b) (leading_whole test bytes)
  where
    by_test : (t : Bool) → leading test bytes ++ after_leading test bytes ≡ bytes →
        cond t (b ∷ leading test bytes) [] ++ cond t (after_leading test bytes) (b ∷ bytes) ≡ b ∷ bytes
    by_test true rest = ap (λ more. b ∷ more) rest
    by_test false rest = refl

label_is : (name : List ℕ) → is_label name ≡ true → IsLabel name
label_is name is =
    let numbers : List ℕ = drop 4 name in
    let prefix : List ℕ = leading is_digit numbers in
    let back : List ℕ = after_leading is_digit numbers in
    let parts = and_parts (starts_with nat_eq name (codes ".LBB")) (is_number_pair numbers) is in
    let pair = and_parts (is_number prefix && starts_with nat_eq back (codes "_")) (is_number (drop 1 back)) parts.1 in
    let first = and_parts (is_number prefix) (starts_with nat_eq back (codes "_")) pair.0 in
    let whole : name ≡ codes ".LBB" ++ numbers = (starts_is Decides-eqb name (codes ".LBB") (starts_with nat_eq name (codes ".LBB")) refl).0 parts.0 in
    let rest : back ≡ 95 ∷ drop 1 back = (starts_is Decides-eqb back (codes "_") (starts_with nat_eq back (codes "_")) refl).0 first.1 in (
      prefix,
      drop 1 back,
      whole ∙ ap (λ xs. codes ".LBB" ++ xs) (sym (leading_whole is_digit numbers) ∙ ap (λ xs. prefix ++ xs) rest),
      first.0,
      pair.1,
    )

pub no_label : (name : List ℕ) → ¬ (IsLabel name) → is_label (spelled name) ≡ false
no_label name none = elim (how_spelled (spelled name) name refl) [
  | inl bare ↦ ap is_label bare.1 ∙ false_from_ne_true (is_label name) (λ is. none (label_is name is))
  | inr quoted ↦ ap is_label quoted.1
]

-- A label is read as one.

digits_of : (xs : List ℕ) → is_number xs ≡ true → list_all is_digit xs ≡ true
digits_of [] h = refl
digits_of (x ∷ []) h = and_from (is_digit x) true h refl
digits_of (x ∷ y ∷ xs) h =
    let parts = and_parts (is_digit x && not (x == 48)) (list_all is_digit (y ∷ xs)) h in
    and_from (is_digit x) (list_all is_digit (y ∷ xs)) (and_parts (is_digit x) (not (x == 48)) parts.0).0 parts.1

leading_digits : (xs more : List ℕ) → list_all is_digit xs ≡ true → (leading is_digit (xs ++ 95 ∷ more) ≡ xs) × (after_leading is_digit (xs ++ 95 ∷ more) ≡ 95 ∷ more)
leading_digits [] more h = (refl, refl)
leading_digits (x ∷ xs) more h =
    let parts = and_parts (is_digit x) (list_all is_digit xs) h in
    let rest = leading_digits xs more parts.1 in (
      ap (λ t. cond t (x ∷ leading is_digit (xs ++ 95 ∷ more)) []) parts.0 ∙ ap (λ ys. x ∷ ys) rest.0,
      ap (λ t. cond t (after_leading is_digit (xs ++ 95 ∷ more)) (x ∷ (xs ++ 95 ∷ more))) parts.0 ∙ rest.1,
    )

pair_is : (f b : List ℕ) → is_number f ≡ true → is_number b ≡ true → is_number_pair (f ++ 95 ∷ b) ≡ true
pair_is f b hf hb =
    let split = leading_digits f b (digits_of f hf) in
    ap (λ xs. is_number xs && starts_with nat_eq (after_leading is_digit (f ++ 95 ∷ b)) (codes "_") && is_number (drop 1 (after_leading is_digit (f ++ 95 ∷ b)))) split.0
    ∙ ap (λ xs. is_number f && starts_with nat_eq xs (codes "_") && is_number (drop 1 xs)) split.1
    ∙ and_from (is_number f && true) (is_number b) (and_from (is_number f) true hf refl) hb

pub is_label_when : (name : List ℕ) → IsLabel name → is_label name ≡ true
is_label_when name label = ap is_label label.2 ∙ pair_is label.0 label.1 label.3 label.4

-- all its bytes may stand in a name without quotes

digit_bare : (b : ℕ) → is_digit b ≡ true → is_symbol_byte b ≡ true
digit_bare b h = grind (arith, nat_tests)

digits_bare : (xs : List ℕ) → list_all is_digit xs ≡ true → list_all is_symbol_byte xs ≡ true
digits_bare [] h = refl
digits_bare (x ∷ xs) h =
    let parts = and_parts (is_digit x) (list_all is_digit xs) h in
    and_from (is_symbol_byte x) (list_all is_symbol_byte xs) (digit_bare x parts.0) (digits_bare xs parts.1)

pub label_bare : (name : List ℕ) → IsLabel name → list_all is_symbol_byte name ≡ true
label_bare name label =
    ap (list_all is_symbol_byte) label.2
    ∙ list_all-append is_symbol_byte label.0 (95 ∷ label.1)
    ∙ and_from (list_all is_symbol_byte label.0) (list_all is_symbol_byte label.1) (digits_bare label.0 (digits_of label.0 label.3)) (digits_bare label.1 (digits_of label.1 label.4))

-- and none is a percent sign
abbrev pub is_no_percent : ℕ → Bool
is_no_percent b = not (b == 37)

bare_percent : (b : ℕ) → is_symbol_byte b ≡ true → is_no_percent b ≡ true
bare_percent b h = grind (arith, nat_tests)

pub bare_no_percent : (xs : List ℕ) → list_all is_symbol_byte xs ≡ true → list_all is_no_percent xs ≡ true
bare_no_percent [] h = refl
bare_no_percent (x ∷ xs) h =
    let parts = and_parts (is_symbol_byte x) (list_all is_symbol_byte xs) h in
    and_from (is_no_percent x) (list_all is_no_percent xs) (bare_percent x parts.0) (bare_no_percent xs parts.1)
