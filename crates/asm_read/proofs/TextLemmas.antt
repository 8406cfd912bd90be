-- A text and its lines.
use Rattle.std.proofs.Common.{◌↔◌, IsTrue, length, suc, ◌≡◌, ◌≢◌, ◌∙◌, ◌==◌, ℕ, List, [], ◌∷◌, ◌++◌, Bool, true, false, cond, Option, refl, sym, ap, arith}
use Rattle.std.proofs.lemmas.Bool.Decides.{nat_tests}
use Rattle.std.proofs.lemmas.List.{append_assoc}
use Rattle.rv_isa.specs.Lines.{in_first, pieces_of}
use Rattle.asm_read.specs.Checks.{AreRead}
use Rattle.asm_line.specs.Statements.{Says}
use Rattle.asm_inst.specs.Bytes.{IsAbsent}
use Rattle.asm_inst.specs.Readings.{Reads}
use Rattle.rv_isa.specs.declared.statement.Statement.{Statement}

other_byte : (b : ℕ) → b ≢ 10 → (b == 10) ≡ false
other_byte b n = grind (arith, nat_tests)

one_piece_more : (b : ℕ) (bytes : List ℕ) → b ≢ 10 → pieces_of (b ∷ bytes) ≡ in_first b (pieces_of bytes)
one_piece_more b bytes n = ap (λ t. cond t ([] ∷ pieces_of bytes) (in_first b (pieces_of bytes))) (other_byte b n)

pub line_is_first : (line after : List ℕ) → IsAbsent 10 line → pieces_of (line ++ 10 ∷ after) ≡ line ∷ pieces_of after
line_is_first [] after h = refl
line_is_first (b ∷ line) after h = one_piece_more b (line ++ 10 ∷ after) h.0 ∙ ap (in_first b) (line_is_first line after h.1)

pub rest_is_last : (rest : List ℕ) → IsAbsent 10 rest → pieces_of rest ≡ rest ∷ []
rest_is_last [] h = refl
rest_is_last (b ∷ rest) h = one_piece_more b rest h.0 ∙ ap (in_first b) (rest_is_last rest h.1)

absent_without : (c : ℕ) (xs : List ℕ) → ((prefix back : List ℕ) → xs ≡ prefix ++ c ∷ back → ⊥) → IsAbsent c xs
absent_without c [] none = tt
absent_without c (x ∷ xs) none =
    ((λ e. none [] xs (ap (λ y. y ∷ xs) e)), absent_without c xs (λ prefix back e. none (x ∷ prefix) back (ap (λ ys. x ∷ ys) e)))

pub last_piece : (rest : List ℕ) → ((prefix back : List ℕ) → rest ≡ prefix ++ 10 ∷ back → ⊥) → pieces_of rest ≡ rest ∷ []
last_piece rest none = rest_is_last rest (absent_without 10 rest none)

-- the lines up to `rest` are read
abbrev pub AreReadUpTo : List ℕ → List (Option Statement) → List ℕ → Type 0
AreReadUpTo text readings rest = (lines : List (List ℕ)) × AreRead lines readings × (pieces_of text ≡ lines ++ pieces_of rest)

read_push : (lines : List (List ℕ)) (readings : List (Option Statement)) (line : List ℕ) (reading : Option Statement) → AreRead lines readings → Reads (Says line) reading → AreRead (lines ++ line ∷ []) (readings ++ reading ∷ [])
read_push [] [] line reading h r = (r, tt)
read_push [] (y ∷ readings) line reading h r = absurd h
read_push (x ∷ lines) [] line reading h r = absurd h
read_push (x ∷ lines) (y ∷ readings) line reading h r = (h.0, read_push lines readings line reading h.1 r)

pub one_line_more : (text rest line after : List ℕ) (readings : List (Option Statement)) (reading : Option Statement) → rest ≡ line ++ 10 ∷ after → IsAbsent 10 line → Reads (Says line) reading
    → AreReadUpTo text readings rest → AreReadUpTo text (readings ++ reading ∷ []) after
one_line_more text rest line after readings reading cut absent read upto = (
  upto.0 ++ line ∷ [],
  read_push upto.0 readings line reading upto.1 read,
  upto.2 ∙ ap (λ ps. upto.0 ++ ps) (ap pieces_of cut ∙ line_is_first line after absent) ∙ sym (append_assoc upto.0 (line ∷ []) (pieces_of after)),
)

pub is_nothing : (xs : List ℕ) (b : Bool) → b ≡ (length xs == 0) → IsTrue b ↔ (xs ≡ [])
is_nothing [] b e = ((λ h. refl), (λ h. e))
is_nothing (x ∷ xs) b e = ((λ h. absurd (some_is_none (length xs) (sym h ∙ e))), (λ h. cc))
  where
    some_is_none : (n : ℕ) → true ≡ (suc n == 0) → ⊥
    some_is_none n h = grind (arith, nat_tests)
