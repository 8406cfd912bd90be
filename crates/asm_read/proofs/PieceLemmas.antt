-- The pieces of a text, put together, and those of a text that is made of lines.
use Rattle.std.proofs.Common.{◌≡◌, ◌==◌, ◌∙◌, ℕ, List, [], ◌∷◌, ◌++◌, Bool, true, false, cond, All, map, refl, sym, ap, arith}
use Rattle.std.proofs.lemmas.Bool.Decides.{nat_tests}
use Rattle.std.proofs.lemmas.List.{append-nil, append_assoc}
use Rattle.std.proofs.lemmas.List.Elements.{All-head, All-tail}
use Rattle.rv_isa.specs.Lines.{ended, in_first, pieces_of, text_of_lines}
use Rattle.asm_read.specs.Assembly.{HasLines}
use Rattle.asm_line.specs.Statements.{IsStatement}
use Rattle.rv_isa.specs.declared.statement.Statement.{Statement}
use Rattle.asm_inst.proofs.BytesLemmas.{end_same, last_same}
use Rattle.asm_line.proofs.FeedLemmas.{statement_unfed}
use Rattle.rv_isa.specs.Statements.{statement_line}
use Rattle.asm_read.proofs.TextLemmas.{line_is_first}

-- each piece after a line feed
abbrev later : List (List ℕ) → List ℕ
later [] = []
later (piece ∷ pieces) = 10 ∷ (piece ++ later pieces)

abbrev together : List (List ℕ) → List ℕ
together [] = []
together (piece ∷ pieces) = piece ++ later pieces

together_first : (b : ℕ) (pieces : List (List ℕ)) → together (in_first b pieces) ≡ b ∷ together pieces
together_first b [] = refl
together_first b (piece ∷ pieces) = refl

together_cut : (first : List ℕ) (more pieces : List (List ℕ)) → pieces ≡ first ∷ more → together ([] ∷ pieces) ≡ 10 ∷ together pieces
together_cut first more pieces e = ap (λ ps. later ps) e ∙ ap (λ ps. 10 ∷ together ps) (sym e)

HasFirst : List (List ℕ) → Type 0
HasFirst pieces = (first : List ℕ) × (more : List (List ℕ)) × (pieces ≡ first ∷ more)

in_first_has : (b : ℕ) (pieces : List (List ℕ)) → HasFirst (in_first b pieces)
unfolding HasFirst
in_first_has b [] = (b ∷ [], [], refl)
in_first_has b (piece ∷ pieces) = (b ∷ piece, pieces, refl)

some_piece : (text : List ℕ) → HasFirst (pieces_of text)
unfolding HasFirst
some_piece [] = ([], [], refl)
some_piece (b ∷ text) = of (b == 10)
  where
    of : (t : Bool) → HasFirst (cond t ([] ∷ pieces_of text) (in_first b (pieces_of text)))
    of true = ([], pieces_of text, refl)
    of false = in_first_has b (pieces_of text)

pub pieces_together : (text : List ℕ) → together (pieces_of text) ≡ text
unfolding HasFirst
pieces_together [] = refl
pieces_together (b ∷ text) = of (b == 10) refl (pieces_together text)
  where
    is_feed : (b == 10) ≡ true → b ≡ 10
    is_feed e = grind (arith, nat_tests)

    of : (t : Bool) → (b == 10) ≡ t → together (pieces_of text) ≡ text → together (cond t ([] ∷ pieces_of text) (in_first b (pieces_of text))) ≡ b ∷ text
    of true e h =
        let some = some_piece text in
        together_cut some.0 some.1 (pieces_of text) some.2 ∙ ap (λ xs. 10 ∷ xs) h ∙ ap (λ c. c ∷ text) (sym (is_feed e))
    of false e h = together_first b (pieces_of text) ∙ ap (λ xs. b ∷ xs) h

-- lines and nothing after them, put together
lines_later : (line : List ℕ) (lines : List (List ℕ)) → line ++ later (lines ++ [] ∷ []) ≡ text_of_lines (line ∷ lines)
lines_later line [] = sym (append-nil (ended line))
lines_later line (next ∷ lines) = ap (λ xs. line ++ 10 ∷ xs) (lines_later next lines) ∙ sym (append_assoc line (10 ∷ []) (text_of_lines (next ∷ lines)))

pub lines_together : (lines : List (List ℕ)) → together (lines ++ [] ∷ []) ≡ text_of_lines lines
lines_together [] = refl
lines_together (line ∷ lines) = lines_later line lines

pub text_is_lines : (text : List ℕ) (lines : List (List ℕ)) → HasLines text lines [] → text ≡ text_of_lines lines
text_is_lines text lines e = sym (pieces_together text) ∙ ap (λ ps. together ps) e ∙ lines_together lines

-- the lines of the grammar's texts
pub lines_of_statements : (statements : List Statement) → All IsStatement statements → HasLines (text_of_lines (map statement_line statements)) (map statement_line statements) []
lines_of_statements [] h = refl
lines_of_statements (statement ∷ statements) h =
    ap pieces_of (append_assoc (statement_line statement) (10 ∷ []) (text_of_lines (map statement_line statements)))
    ∙ line_is_first (statement_line statement) (text_of_lines (map statement_line statements)) (statement_unfed statement (All-head IsStatement statement statements h))
    ∙ ap (λ ps. statement_line statement ∷ ps) (lines_of_statements statements (All-tail IsStatement statement statements h))

pub lines_once : (text : List ℕ) (lines more : List (List ℕ)) (last end : List ℕ) → HasLines text lines last → HasLines text more end → (lines ≡ more) × (last ≡ end)
lines_once text lines more last end h k = (last_same lines more last end (sym h ∙ k), end_same lines more last end (sym h ∙ k))
