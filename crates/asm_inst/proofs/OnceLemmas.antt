-- A line is of one instruction.
use Rattle.std.proofs.Common.{◌≡◌, ◌&&◌, ◌||◌, ◌==◌, ◌∷◌, ◌++◌, [], ℕ, List, Bool, true, false, not, codes, refl, sym, ap, subst, ◌∙◌, arith}
use Rattle.std.proofs.lemmas.Bool.Decides.{nat_tests}
use Rattle.std.proofs.lemmas.Slice.Eq.{bytes_eq-Decides}
use Rattle.std.specs.Fmt.{signed_decimal}
use Rattle.std.specs.Str.{bytes_eq}
use Rattle.rv_isa.specs.Encoding.{FitsRow}
use Rattle.rv_isa.specs.Table.{mnemonic, row, shape}
use Rattle.rv_isa.specs.Text.{instruction_line, operands, register, spelled_line}
use Rattle.rv_isa.specs.declared.inst.Inst.{Inst}
use Rattle.rv_isa.specs.declared.op.Op.{Op}
use Rattle.rv_isa.specs.declared.row.Row.{Row}
use Rattle.rv_isa.specs.declared.row.Row.TheVariants.{IType, Whole}
use Rattle.rv_isa.specs.declared.shape.Shape.{Shape}
use Rattle.rv_isa.specs.declared.shape.Shape.TheVariants.{AddImmediate, JumpRegister, Nothing}
use Rattle.asm_inst.specs.Bytes.{IsAbsent}
use Rattle.asm_inst.specs.Forms.{Form, IsGiven, as_j, as_li, as_mv, as_ret, form, in_full, line_operands, line_word, operands_by, operands_in, word_in}
use Rattle.asm_inst.specs.Grammar.{IsRead, is_in_text}
use Rattle.asm_inst.specs.Mnemonics.{op_at}
use Rattle.asm_inst.proofs.BytesLemmas.{cut_once, head_same, not_absent, tail_same}
use Rattle.asm_inst.proofs.FieldLemmas.{agrees, all_agree, fields_of, fields_once, ranged_small, same_inst}
use Rattle.asm_inst.proofs.FormLemmas.{li_form, li_word, line_parts, mv_form, mv_word, ret_form, ret_word}
use Rattle.asm_inst.proofs.MnemonicLemmas.{each, mnemonic_once}
use Rattle.asm_inst.proofs.NumberLemmas.{number_once}
use Rattle.asm_inst.proofs.OperandLemmas.{first_once}
use Rattle.asm_inst.proofs.ReadingLemmas.{full_word, no_j_read, word_no_tab}
use Rattle.asm_inst.proofs.RegisterLemmas.{below_holds, register_once}

-- The parts of a line.

parts_once : (w v : List ℕ) (ops texts : List (List ℕ)) (f g : Form) (op other : Op) → w ≡ word_in f (mnemonic op) → v ≡ word_in g (mnemonic other) →
    spelled_line w ops ≡ spelled_line v texts → (w ≡ v) × (operands ops ≡ operands texts)
parts_once w v [] [] f g op other is_w is_v e = (tail_same 9 9 w v e, refl)
parts_once w v [] (first ∷ more) f g op other is_w is_v e =
    absurd (not_absent 9 v (operands (first ∷ more))
    (subst (IsAbsent 9) (sym is_w ∙ tail_same 9 9 w _ e) (word_no_tab f op)))
parts_once w v (first ∷ more) [] f g op other is_w is_v e =
    absurd (not_absent 9 w (operands (first ∷ more))
    (subst (IsAbsent 9) (sym is_v ∙ tail_same 9 9 v _ (sym e)) (word_no_tab g other)))
parts_once w v (first ∷ more) (second ∷ rest) f g op other is_w is_v e =
    cut_once 9 w (operands (first ∷ more)) v (operands (second ∷ rest))
    (tail_same 9 9 _ _ e)
    (subst (IsAbsent 9) (sym is_w) (word_no_tab f op))
    (subst (IsAbsent 9) (sym is_v) (word_no_tab g other))

-- The instructions with certain operands.

pub same_from_bytes : (xs ys : List ℕ) → bytes_eq xs ys ≡ true → xs ≡ ys
same_from_bytes xs ys h = (bytes_eq-Decides xs ys).0 h

pub right_of : (a b : Bool) → a ≡ true → (not a || b) ≡ true → b ≡ true
right_of a b h k = grind (arith, nat_tests)

abbrev pub is_add : Shape → Bool
is_add AddImmediate = true
is_add other = false

abbrev is_return : Shape → Bool
is_return JumpRegister = true
is_return other = false

abbrev is_nothing : Shape → Bool
is_nothing Nothing = true
is_nothing other = false

abbrev is_whole : Row → Bool
is_whole (Whole word) = true
is_whole other = false

add_op : (op : Op) → shape op ≡ AddImmediate → mnemonic op ≡ codes "addi"
add_op op e =
    same_from_bytes (mnemonic op) (codes "addi")
    (right_of (is_add (shape op)) (bytes_eq (mnemonic op) (codes "addi")) (ap is_add e)
    (each (λ o. not (is_add (shape o)) || bytes_eq (mnemonic o) (codes "addi"))
    (below_holds 65 (λ n. not (is_add (shape (op_at n))) || bytes_eq (mnemonic (op_at n)) (codes "addi")) refl) op))

return_op : (op : Op) → shape op ≡ JumpRegister → mnemonic op ≡ codes "jalr"
return_op op e =
    same_from_bytes (mnemonic op) (codes "jalr")
    (right_of (is_return (shape op)) (bytes_eq (mnemonic op) (codes "jalr")) (ap is_return e)
    (each (λ o. not (is_return (shape o)) || bytes_eq (mnemonic o) (codes "jalr"))
    (below_holds 65 (λ n. not (is_return (shape (op_at n))) || bytes_eq (mnemonic (op_at n)) (codes "jalr")) refl) op))

whole_row : (op : Op) → is_in_text op ≡ true → shape op ≡ Nothing → is_whole (row op) ≡ true
whole_row op h e =
    right_of (is_in_text op && is_nothing (shape op)) (is_whole (row op)) (ap (λ t. t && is_nothing (shape op)) h ∙ ap is_nothing e)
    (each (λ o. not (is_in_text o && is_nothing (shape o)) || is_whole (row o))
    (below_holds 65 (λ n. not (is_in_text (op_at n) && is_nothing (shape (op_at n))) || is_whole (row (op_at n))) refl) op)

whole_once : (r q : Row) (i j : Inst) → i.op ≡ j.op → is_whole r ≡ true → is_whole q ≡ true → FitsRow r i → FitsRow q j → i ≡ j
whole_once (Whole word) (Whole other) i j o a b h k =
    same_inst i j o (h.0 ∙ sym k.0) (h.1 ∙ sym k.1) (h.2 ∙ sym k.2) (h.3 ∙ sym k.3)
whole_once r q i j o a b h k = absurd (cc)

no_rs2 : (r : Row) (i : Inst) → agrees AddImmediate r ≡ true → FitsRow r i → i.rs2 ≡ 0
no_rs2 (IType opcode funct3) i a h = h.0
no_rs2 r i a h = absurd (cc)

no_rs2_return : (r : Row) (i : Inst) → agrees JumpRegister r ≡ true → FitsRow r i → i.rs2 ≡ 0
no_rs2_return (IType opcode funct3) i a h = h.0
no_rs2_return r i a h = absurd (cc)

add_rs2 : (i : Inst) → IsRead i → shape i.op ≡ AddImmediate → i.rs2 ≡ 0
add_rs2 i read e = no_rs2 (row i.op) i (subst (λ s. agrees s (row i.op) ≡ true) e (all_agree i.op)) read.inst.row

return_rs2 : (i : Inst) → IsRead i → shape i.op ≡ JumpRegister → i.rs2 ≡ 0
return_rs2 i read e = no_rs2_return (row i.op) i (subst (λ s. agrees s (row i.op) ≡ true) e (all_agree i.op)) read.inst.row

imm_once : (i j : Inst) → IsRead i → IsRead j → signed_decimal i.imm ≡ signed_decimal j.imm → i.imm ≡ j.imm
imm_once i j h k e = number_once i.imm j.imm (ranged_small (row i.op) i.imm h.ranged) (ranged_small (row j.op) j.imm k.ranged) e

-- Two instructions in the same form.

abbrev IsOnce : Form → Type 0
IsOnce f = (i j : Inst) → IsRead i → IsRead j → form i ≡ f → form j ≡ f → line_word i ≡ line_word j →
    operands (line_operands i) ≡ operands (line_operands j) → i ≡ j

operands_are : (i : Inst) (f : Form) → form i ≡ f → line_operands i ≡ operands_in f (shape i.op) i
operands_are i f e = ap (λ g. operands_in g (shape i.op) i) e

li_once : IsOnce as_li
li_once i j h k is_i is_j w e =
    let fi = li_form (shape i.op) i is_i in
    let fj = li_form (shape j.op) j is_j in
    let text = sym (ap operands (operands_are i as_li is_i)) ∙ e ∙ ap operands (operands_are j as_li is_j) in
    let one = first_once _ i.rd j.rd (signed_decimal i.imm) (signed_decimal j.imm) h.inst.rd k.inst.rd refl text in
    same_inst i j (mnemonic_once i.op j.op (add_op i.op fi.0 ∙ sym (add_op j.op fj.0))) one.0 (fi.1 ∙ sym fj.1)
    (add_rs2 i h fi.0 ∙ sym (add_rs2 j k fj.0)) (imm_once i j h k one.1)

mv_once : IsOnce as_mv
mv_once i j h k is_i is_j w e =
    let fi = mv_form (shape i.op) i is_i in
    let fj = mv_form (shape j.op) j is_j in
    let text = sym (ap operands (operands_are i as_mv is_i)) ∙ e ∙ ap operands (operands_are j as_mv is_j) in
    let one = first_once _ i.rd j.rd (register i.rs1) (register j.rs1) h.inst.rd k.inst.rd refl text in
    same_inst i j (mnemonic_once i.op j.op (add_op i.op fi.0 ∙ sym (add_op j.op fj.0))) one.0
    (register_once i.rs1 j.rs1 h.inst.rs1 k.inst.rs1 one.1) (add_rs2 i h fi.0 ∙ sym (add_rs2 j k fj.0)) (fi.2 ∙ sym fj.2)

ret_once : IsOnce as_ret
ret_once i j h k is_i is_j w e =
    let fi = ret_form (shape i.op) i is_i in
    let fj = ret_form (shape j.op) j is_j in
    same_inst i j (mnemonic_once i.op j.op (return_op i.op fi.0 ∙ sym (return_op j.op fj.0))) (fi.1 ∙ sym fj.1) (fi.2 ∙ sym fj.2)
    (return_rs2 i h fi.0 ∙ sym (return_rs2 j k fj.0)) (fi.3 ∙ sym fj.3)

full_by : (s : Shape) (i j : Inst) → shape i.op ≡ s → i.op ≡ j.op → IsRead i → IsRead j →
    operands (operands_by (shape i.op) i) ≡ operands (operands_by (shape i.op) j) → i ≡ j
full_by Nothing i j is o h k e =
    whole_once (row i.op) (row j.op) i j o (whole_row i.op h.in_text is) (whole_row j.op k.in_text (ap shape (sym o) ∙ is)) h.inst.row k.inst.row
full_by s i j is o h k e =
    let given : IsGiven (operands_by (shape i.op) i) = subst (λ t. IsGiven (operands_by t i)) (sym is) tt in
    let given_j : IsGiven (operands_by (shape i.op) j) = subst (λ t. IsGiven (operands_by t j)) (sym is) tt in
    fields_once (shape i.op) (row i.op) i j o (fields_of i.op i h refl given) (fields_of i.op j k (sym o) given_j) e

full_once : IsOnce in_full
full_once i j h k is_i is_j w e =
    let own = sym (ap (λ f. word_in f (mnemonic i.op)) is_i) ∙ w ∙ ap (λ f. word_in f (mnemonic j.op)) is_j in
    let o = mnemonic_once i.op j.op own in
    let text = sym (ap operands (operands_are i in_full is_i)) ∙ e ∙ ap operands (operands_are j in_full is_j) in
    full_by (shape i.op) i j refl o h k (text ∙ ap (λ op. operands (operands_by (shape op) j)) (sym o))

-- the word tells the form
same_form : (f g : Form) (op other : Op) → word_in f (mnemonic op) ≡ word_in g (mnemonic other) → f ≡ g
same_form in_full g op other e = sym (full_word g op other e).0
same_form as_li g op other e = sym (li_word g other e)
same_form as_mv g op other e = sym (mv_word g other e)
same_form as_j as_j op other e = refl
same_form as_j in_full op other e = (full_word as_j other op (sym e)).0
same_form as_j as_li op other e = absurd (omega (arith, head_same _ _ _ _ e))
same_form as_j as_mv op other e = absurd (omega (arith, head_same _ _ _ _ e))
same_form as_j as_ret op other e = absurd (omega (arith, head_same _ _ _ _ e))
same_form as_ret g op other e = sym (ret_word g other e)

by_form : (f : Form) (i j : Inst) → IsRead i → IsRead j → form i ≡ f → form j ≡ f → line_word i ≡ line_word j →
    operands (line_operands i) ≡ operands (line_operands j) → i ≡ j
by_form in_full i j h k is_i is_j w e = full_once i j h k is_i is_j w e
by_form as_li i j h k is_i is_j w e = li_once i j h k is_i is_j w e
by_form as_mv i j h k is_i is_j w e = mv_once i j h k is_i is_j w e
by_form as_j i j h k is_i is_j w e = absurd (no_j_read i h is_i)
by_form as_ret i j h k is_i is_j w e = ret_once i j h k is_i is_j w e

pub code_once : (i j : Inst) → IsRead i → IsRead j → instruction_line i ≡ instruction_line j → i ≡ j
code_once i j h k e =
    let parts = parts_once (line_word i) (line_word j) (line_operands i) (line_operands j) (form i) (form j) i.op j.op refl refl
    (sym (line_parts i) ∙ e ∙ line_parts j) in
    by_form (form i) i j h k refl (sym (same_form (form i) (form j) i.op j.op parts.0)) parts.0 parts.1

-- the line begins with a tab, and behind it with a letter other than the first one of `unimp`
abbrev pub starts_plain : List ℕ → Bool
starts_plain [] = false
starts_plain (b ∷ bytes) = not (b == 46) && not (b == 117)

pub plain_mnemonic : (op : Op) → starts_plain (mnemonic op) ≡ true
plain_mnemonic op = each (λ o. starts_plain (mnemonic o)) (below_holds 65 (λ n. starts_plain (mnemonic (op_at n))) refl) op

plain_word : (f : Form) (op : Op) → starts_plain (word_in f (mnemonic op)) ≡ true
plain_word in_full op = plain_mnemonic op
plain_word as_li op = refl
plain_word as_mv op = refl
plain_word as_j op = refl
plain_word as_ret op = refl

-- how a line begins, where it is one of code
pub record BeginsCode (line : List ℕ) : Type 0 where
  pub first : ℕ
  pub rest : List ℕ
  pub is : line ≡ 9 ∷ first ∷ rest
  pub plain : (first == 46) ≡ false
  pub other : (first == 117) ≡ false

no_point : (b : ℕ) → (not (b == 46) && not (b == 117)) ≡ true → (b == 46) ≡ false
no_point b h = grind (arith, nat_tests)

no_other : (b : ℕ) → (not (b == 46) && not (b == 117)) ≡ true → (b == 117) ≡ false
no_other b h = grind (arith, nat_tests)

pub begins_by : (word : List ℕ) (texts : List (List ℕ)) → starts_plain word ≡ true → BeginsCode (spelled_line word texts)
begins_by [] texts h = absurd (cc)
begins_by (b ∷ word) [] h = record { first = b; rest = word; is = refl; plain = no_point b h; other = no_other b h }
begins_by (b ∷ word) (first ∷ more) h =
    record { first = b; rest = word ++ 9 ∷ operands (first ∷ more); is = refl; plain = no_point b h; other = no_other b h }

pub code_begins : (i : Inst) → BeginsCode (instruction_line i)
code_begins i = subst BeginsCode (sym (line_parts i)) (begins_by (line_word i) (line_operands i) (plain_word (form i) i.op))
