-- A line says one thing.
use Rattle.std.proofs.Common.{◌≡◌, ◌==◌, ◌∙◌, ℕ, List, [], ◌∷◌, ◌++◌, Bool, true, false, Some, IsTrue, ◌↔◌, codes, inl, inr, if◌then◌else◌, cond, ◌&&◌, refl, sym, ap, subst, arith, slice_index_or}
use Rattle.std.proofs.lemmas.Bool.{and_from, and_parts}
use Rattle.std.proofs.lemmas.Bool.Decides.{nat_tests}
use Rattle.std.proofs.lemmas.List.{append_cancel_right}
use Rattle.rv_isa.specs.Symbol.{IsLabel, IsSymbol, is_bare, is_symbol_byte, spelled}
use Rattle.rv_isa.specs.Text.{instruction_line, line_to}
use Rattle.asm_line.specs.Statements.{IsStatement, Says}
use Rattle.rv_isa.specs.declared.statement.Statement.{Statement}
use Rattle.rv_isa.specs.declared.statement.Statement.TheVariants.{Text, Global, Align, Define, Code, Unimp, Label, ToLabel}
use Rattle.rv_isa.specs.declared.inst.Inst.{Inst}
use Rattle.asm_inst.specs.Grammar.{IsRead}
use Rattle.asm_inst.specs.Targets.{IsOpen, target}
use Rattle.asm_inst.specs.declared.target.Target.TheVariants as targets
use Rattle.asm_inst.proofs.BytesLemmas.{head_same}
use Rattle.asm_inst.proofs.CodeLemmas.{are_calm}
use Rattle.asm_inst.proofs.OnceLemmas.{BeginsCode, code_begins, code_once}
use Rattle.asm_inst.proofs.OpenLemmas.{open_begins, open_is_no_code, open_once}
use Rattle.rv_isa.specs.Statements.{statement_line}
use Rattle.asm_line.proofs.SymbolLemmas.{how_spelled, spelled_once}

-- the kind of a statement, and how its line shows it
abbrev kind : Statement → ℕ
kind Text = 116
kind (Global name) = 103
kind Align = 112
kind (Define name) = 0
kind (Code inst) = 1
kind Unimp = 117
kind (Label name) = 0
kind (ToLabel inst name) = 1

abbrev shown_behind : ℕ → ℕ → ℕ
shown_behind b next = if b == 46 then next else if b == 117 then 117 else 1

abbrev shown : List ℕ → ℕ
shown line = if slice_index_or line 0 0 == 9 then shown_behind (slice_index_or line 1 0) (slice_index_or line 2 0) else 0

no_tab : (b : ℕ) (digit : Bool) (more : Bool) → (is_symbol_byte b && digit && more) ≡ true → (b == 9) ≡ false
no_tab b digit more h = grind (arith, nat_tests)

shown_bare : (name : List ℕ) → is_bare name ≡ true → shown (name ++ 58 ∷ []) ≡ 0
shown_bare [] h = cc
shown_bare (b ∷ name) h =
    let line : List ℕ = b ∷ (name ++ 58 ∷ []) in
    ap (λ t. cond t (shown_behind (slice_index_or line 1 0) (slice_index_or line 2 0)) 0) (no_tab b _ _ h)

shown_define : (name : List ℕ) → shown (spelled name ++ 58 ∷ []) ≡ 0
shown_define name = elim (how_spelled (spelled name) name refl) [
  | inl h ↦ ap (λ xs. shown (xs ++ 58 ∷ [])) h.1 ∙ shown_bare name h.0
  | inr h ↦ ap (λ xs. shown (xs ++ 58 ∷ [])) h.1
]

shown_plain : (b : ℕ) (rest : List ℕ) → (b == 46) ≡ false → (b == 117) ≡ false → shown (9 ∷ b ∷ rest) ≡ 1
shown_plain b rest plain other =
    ap (λ t. cond t (slice_index_or rest 0 0) (cond (b == 117) 117 1)) plain ∙ ap (λ t. cond t 117 1) other

shown_begun : (line : List ℕ) → BeginsCode line → shown line ≡ 1
shown_begun line begins = ap shown begins.is ∙ shown_plain begins.first begins.rest begins.plain begins.other

shown_label : (name : List ℕ) → IsLabel name → shown (name ++ 58 ∷ []) ≡ 0
shown_label name label = ap (λ n. shown (n ++ 58 ∷ [])) label.2

shown_is : (statement : Statement) → IsStatement statement → shown (statement_line statement) ≡ kind statement
shown_is Text h = refl
shown_is (Global name) h = refl
shown_is Align h = refl
shown_is (Define name) h = shown_define name
shown_is (Code inst) h = shown_begun (instruction_line inst) (code_begins inst)
shown_is Unimp h = refl
shown_is (Label name) h = shown_label name h
shown_is (ToLabel inst name) h = shown_begun (line_to inst name) (open_begins inst name)

same_kind : (f g : Statement) → IsStatement f → IsStatement g → statement_line f ≡ statement_line g → kind f ≡ kind g
same_kind f g h k e = sym (shown_is f h) ∙ ap shown e ∙ shown_is g k

-- a symbol is spelled as no label is
symbol_is_no_label : (name label : List ℕ) → IsSymbol name → IsLabel label → spelled name ≡ label → ⊥
symbol_is_no_label name label h k e = elim (how_spelled (spelled name) name refl) [
  | inl bare ↦ h.1 (subst IsLabel (sym e ∙ bare.1) k)
  | inr quoted ↦ omega (arith, head_same _ _ _ _ (sym quoted.1 ∙ e ∙ k.2))
]

label_uncalm : (name : List ℕ) → IsLabel name → are_calm name ≡ false
label_uncalm name label = ap are_calm label.2

pub statement_once : (f g : Statement) → IsStatement f → IsStatement g → statement_line f ≡ statement_line g → f ≡ g
statement_once Text Text h k e = refl
statement_once (Global n) (Global m) h k e = ap Global (spelled_once n m h.0 k.0 (search e))
statement_once Align Align h k e = refl
statement_once (Define n) (Define m) h k e = ap Define (spelled_once n m h.0 k.0 (append_cancel_right (spelled n) (spelled m) (58 ∷ []) e))
statement_once (Code i) (Code j) h k e = ap Code (code_once i j h k e)
statement_once Unimp Unimp h k e = refl
statement_once (Label n) (Label m) h k e = ap Label (append_cancel_right n m (58 ∷ []) e)
statement_once (Define n) (Label m) h k e = absurd (symbol_is_no_label n m h k (append_cancel_right (spelled n) m (58 ∷ []) e))
statement_once (Label n) (Define m) h k e = absurd (symbol_is_no_label m n k h (append_cancel_right (spelled m) n (58 ∷ []) (sym e)))
statement_once (ToLabel i n) (ToLabel j m) h k e =
    let once = open_once i j n m h.0 k.0 e in ap (λ inst. ToLabel inst n) once.0 ∙ ap (ToLabel j) once.1
statement_once (Code i) (ToLabel j m) h k e = absurd (open_is_no_code j i m h (label_uncalm m k.2) e)
statement_once (ToLabel i n) (Code j) h k e = absurd (open_is_no_code i j n k (label_uncalm n h.2) (sym e))
statement_once f g h k e = absurd (omega (arith, same_kind f g h k e))

pub said_once : (line : List ℕ) (f g : Statement) → Says line f → Says line g → f ≡ g
said_once line f g h k = statement_once f g h.0 k.0 (sym h.1 ∙ k.1)

-- a line in which what stands for the immediate is no label
pub none_to_label : (line : List ℕ) (i j : Inst) (last name : List ℕ) → IsOpen i → line ≡ line_to i last → ((target i.op ≡ Some targets.Label) × IsLabel last → ⊥) → Says line (ToLabel j name) → ⊥
none_to_label line i j last name h e none says =
    let once = open_once i j last name h says.0.0 (sym e ∙ says.1) in
    none (ap (λ k. target k.op) once.0 ∙ says.0.1, subst IsLabel (sym once.1) says.0.2)

-- a test of two parts
pub both_decided : (a b : Bool) (P Q : Type 0) → IsTrue a ↔ P → IsTrue b ↔ Q → IsTrue (a && b) ↔ (P × Q)
both_decided a b P Q p q =
    ((λ h. let parts = and_parts a b h in (p.0 parts.0, q.0 parts.1)), (λ h. and_from a b (p.1 h.0) (q.1 h.1)))

-- a line that says nothing of each kind
pub none_said : (line : List ℕ) → (line ≡ codes "\t.text" → ⊥) → (line ≡ codes "\t.p2align\t2" → ⊥) → ((i : Inst) → IsRead i × (line ≡ instruction_line i) → ⊥)
    → (line ≡ codes "\tunimp" → ⊥) → ((p : Inst × List ℕ) → Says line (ToLabel p.0 p.1) → ⊥) → ((n : List ℕ) → IsLabel n × (line ≡ statement_line (Label n)) → ⊥)
    → ((n : List ℕ) → IsSymbol n × (line ≡ statement_line (Global n)) → ⊥) → ((n : List ℕ) → IsSymbol n × (line ≡ statement_line (Define n)) → ⊥)
    → (x : Statement) → Says line x → ⊥
none_said line text align code unimp to label global define Text h = text h.1
none_said line text align code unimp to label global define Align h = align h.1
none_said line text align code unimp to label global define (Code i) h = code i h
none_said line text align code unimp to label global define Unimp h = unimp h.1
none_said line text align code unimp to label global define (ToLabel i n) h = to (i, n) h
none_said line text align code unimp to label global define (Label n) h = label n h
none_said line text align code unimp to label global define (Global n) h = global n h
none_said line text align code unimp to label global define (Define n) h = define n h
