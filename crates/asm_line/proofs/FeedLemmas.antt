-- No line of the grammar has a line feed in it.
use Rattle.std.proofs.Common.{◌≡◌, ◌≢◌, ◌<◌, ◌&&◌, ◌==◌, ◌∙◌, ℕ, List, [], ◌∷◌, ◌++◌, Bool, true, not, ap, inl, inr, subst, sym, refl, arith, codes}
use Rattle.std.proofs.lemmas.Bool.{and_from, and_parts}
use Rattle.std.proofs.lemmas.Bool.Decides.{nat_tests}
use Rattle.std.proofs.lemmas.List.Folds.{list_all-append}
use Rattle.std.proofs.lemmas.List.Elements.{All-tail}
use Rattle.std.specs.List.{flat_map, list_all}
use Rattle.rv_isa.specs.Symbol.{AreBytes, IsLabel, escaped, is_bare, is_digit, is_number, is_symbol_byte, spelled}
use Rattle.rv_isa.specs.Text.{instruction_line}
use Rattle.asm_line.specs.Statements.{IsStatement}
use Rattle.asm_inst.specs.Bytes.{IsAbsent}
use Rattle.rv_isa.specs.declared.statement.Statement.{Statement}
use Rattle.rv_isa.specs.declared.statement.Statement.TheVariants.{Text, Global, Align, Define, Code, Unimp, Label, ToLabel}
use Rattle.asm_inst.proofs.CodeLemmas.{calm_unfed, code_calm}
use Rattle.asm_inst.proofs.OpenLemmas.{is_no_feed, open_unfed}
use Rattle.asm_inst.proofs.RegisterLemmas.{absent_from_test}
use Rattle.rv_isa.specs.Statements.{statement_line}
use Rattle.asm_line.proofs.SymbolLemmas.{how_spelled}

absent_append : (b : ℕ) (xs ys : List ℕ) → IsAbsent b xs → IsAbsent b ys → IsAbsent b (xs ++ ys)
absent_append b [] ys h k = k
absent_append b (x ∷ xs) ys h k = (h.0, absent_append b xs ys h.1 k)

escape_unfed : (b : ℕ) → b < 256 → IsAbsent 10 (escaped b)
escape_unfed b h = grind (arith, nat_tests)

escapes_unfed : (name : List ℕ) → AreBytes name → IsAbsent 10 (flat_map escaped name)
escapes_unfed [] h = tt
escapes_unfed (b ∷ name) h = absent_append 10 (escaped b) (flat_map escaped name) (escape_unfed b (h 0 0 (omega arith))) (escapes_unfed name (All-tail (λ x. x < 256) b name h))

symbol_bytes_unfed : (xs : List ℕ) → list_all is_symbol_byte xs ≡ true → IsAbsent 10 xs
symbol_bytes_unfed [] h = tt
symbol_bytes_unfed (x ∷ xs) h = (no_feed x _ h, symbol_bytes_unfed xs (rest x _ h))
  where
    no_feed : (x : ℕ) (more : Bool) → (is_symbol_byte x && more) ≡ true → x ≢ 10
    no_feed x more h = grind (arith, nat_tests)

    rest : (x : ℕ) (more : Bool) → (is_symbol_byte x && more) ≡ true → more ≡ true
    rest x more h = grind (arith, nat_tests)

bare_unfed : (name : List ℕ) → is_bare name ≡ true → IsAbsent 10 name
bare_unfed [] h = tt
bare_unfed (b ∷ name) h = (no_feed b _ _ h, symbol_bytes_unfed name (rest b _ _ h))
  where
    no_feed : (x : ℕ) (d more : Bool) → (is_symbol_byte x && d && more) ≡ true → x ≢ 10
    no_feed x d more h = grind (arith, nat_tests)

    rest : (x : ℕ) (d more : Bool) → (is_symbol_byte x && d && more) ≡ true → more ≡ true
    rest x d more h = grind (arith, nat_tests)

symbol_unfed : (name : List ℕ) → AreBytes name → IsAbsent 10 (spelled name)
symbol_unfed name h = elim (how_spelled (spelled name) name refl) [
  | inl k ↦ subst (IsAbsent 10) (sym k.1) (bare_unfed name k.0)
  | inr k ↦ subst (IsAbsent 10) (sym k.1) ((λ e. omega (arith, e)), absent_append 10 (flat_map escaped name) (34 ∷ []) (escapes_unfed name h) ((λ e. omega (arith, e)), tt))
]

-- no label has one

digit_unfed : (b : ℕ) → is_digit b ≡ true → is_no_feed b ≡ true
digit_unfed b h = grind (arith, nat_tests)

digits_unfed : (xs : List ℕ) → list_all is_digit xs ≡ true → list_all is_no_feed xs ≡ true
digits_unfed [] h = refl
digits_unfed (x ∷ xs) h =
    let parts = and_parts (is_digit x) (list_all is_digit xs) h in and_from (is_no_feed x) (list_all is_no_feed xs) (digit_unfed x parts.0) (digits_unfed xs parts.1)

number_unfed : (xs : List ℕ) → is_number xs ≡ true → list_all is_no_feed xs ≡ true
number_unfed [] h = refl
number_unfed (x ∷ []) h = and_from (is_no_feed x) true (digit_unfed x h) refl
number_unfed (x ∷ y ∷ xs) h =
    let parts = and_parts (is_digit x && not (x == 48)) (list_all is_digit (y ∷ xs)) h in
    digits_unfed (x ∷ y ∷ xs) (and_from (is_digit x) (list_all is_digit (y ∷ xs)) (and_parts (is_digit x) (not (x == 48)) parts.0).0 parts.1)

label_unfed : (name : List ℕ) → IsLabel name → list_all is_no_feed name ≡ true
label_unfed name label =
    ap (list_all is_no_feed) label.2
    ∙ list_all-append is_no_feed label.0 (95 ∷ label.1)
    ∙ and_from (list_all is_no_feed label.0) (list_all is_no_feed label.1) (number_unfed label.0 label.3) (number_unfed label.1 label.4)

pub statement_unfed : (statement : Statement) → IsStatement statement → IsAbsent 10 (statement_line statement)
statement_unfed Text h = absent_from_test 10 (codes "\t.text") refl
statement_unfed (Global name) h = absent_append 10 (codes "\t.globl\t") (spelled name) (absent_from_test 10 (codes "\t.globl\t") refl) (symbol_unfed name h.0)
statement_unfed Align h = absent_from_test 10 (codes "\t.p2align\t2") refl
statement_unfed (Define name) h = absent_append 10 (spelled name) (58 ∷ []) (symbol_unfed name h.0) ((λ e. omega (arith, e)), tt)
statement_unfed (Code inst) h = calm_unfed (instruction_line inst) (code_calm inst h)
statement_unfed Unimp h = absent_from_test 10 (codes "\tunimp") refl
statement_unfed (Label name) h = absent_append 10 name (58 ∷ []) (absent_from_test 10 name (label_unfed name h)) ((λ e. omega (arith, e)), tt)
statement_unfed (ToLabel inst name) h = open_unfed inst name (label_unfed name h.2)
