-- Lines in which a text stands for the immediate.
use Rattle.std.proofs.Common.{◌≡◌, ◌==◌, ◌||◌, ◌&&◌, ◌∷◌, ◌++◌, [], ℕ, zero, suc, get_or, pos, List, Bool, true, false, not, cond, codes, Option, Some, None, Bor, refl, sym, ap, subst, ◌∙◌, arith}
use Rattle.std.proofs.lemmas.Bool.{and_parts, false≢true}
use Rattle.std.proofs.lemmas.Bool.Decides.{nat_tests}
use Rattle.std.proofs.lemmas.List.Folds.{list_all-append}
use Rattle.std.specs.List.{list_all}
use Rattle.std.specs.Str.{bytes_eq}
use Rattle.rv_isa.specs.Table.{mnemonic, shape}
use Rattle.rv_isa.specs.Text.{based_on, instruction_line, line_to, operands, operands_to, register, register_names, word_to}
use Rattle.rv_isa.specs.declared.inst.Inst.{Inst}
use Rattle.rv_isa.specs.declared.op.Op.{Op}
use Rattle.rv_isa.specs.declared.op.Op.TheVariants.{Addi, Jal}
use Rattle.rv_isa.specs.declared.shape.Shape.{Shape}
use Rattle.rv_isa.specs.declared.shape.Shape.TheVariants.{Registers, AddImmediate, Immediate, Load, Store, Branch, Upper, Jump, JumpRegister, Nothing}
use Rattle.asm_inst.specs.Bytes.{IsAbsent}
use Rattle.asm_inst.specs.Forms.{IsGiven}
use Rattle.asm_inst.specs.Grammar.{IsRead}
use Rattle.asm_inst.specs.Mnemonics.{op_at}
use Rattle.asm_inst.specs.Readings.{Finds}
use Rattle.asm_inst.specs.Targets.{HasRegisters, IsLineOf, IsOpen, IsOpenInFull, IsOpenLi, IsOpenWith, operands_open, stands_open}
use Rattle.asm_inst.proofs.BytesLemmas.{cut_once, head_same, tail_same}
use Rattle.asm_inst.proofs.CodeLemmas.{are_calm, code_calm, is_calm}
use Rattle.asm_inst.proofs.FieldLemmas.{same_inst}
use Rattle.asm_inst.proofs.FormLemmas.{is_jump}
use Rattle.asm_inst.proofs.MnemonicLemmas.{each, mnemonic_differs, mnemonic_no_tab, mnemonic_once}
use Rattle.asm_inst.proofs.OnceLemmas.{BeginsCode, begins_by, is_add, plain_mnemonic, right_of, same_from_bytes, starts_plain}
use Rattle.asm_inst.proofs.OperandLemmas.{address_once, first_once, second_once}
use Rattle.asm_inst.proofs.ReadingLemmas.{spelled_given}
use Rattle.asm_inst.proofs.RegisterLemmas.{absent_from_test, below, below_holds}

-- how such a line stands
pub data Stands (own : List ℕ) (s : Shape) (i : Inst) : Type 0 where
  in_full : stands_open s i ≡ true → word_to s own i ≡ own → ((last : List ℕ) → operands_to s i last ≡ operands_open s i last) → Stands own s i
  as_li : s ≡ AddImmediate → i.rs1 ≡ 0 → word_to s own i ≡ codes "li" → ((last : List ℕ) → operands_to s i last ≡ register i.rd ∷ last ∷ []) → Stands own s i
  as_j : s ≡ Jump → i.rd ≡ 0 → word_to s own i ≡ codes "j" → ((last : List ℕ) → operands_to s i last ≡ last ∷ []) → Stands own s i

zero_from_test : (n : ℕ) → (n == 0) ≡ true → n ≡ 0
zero_from_test n h = grind (arith, nat_tests)

stands_add : (own : List ℕ) (i : Inst) (t : Bool) → (i.rs1 == 0) ≡ t → Stands own AddImmediate i
stands_add own i true e =
    as_li refl (zero_from_test i.rs1 e) (ap (λ t. cond t (codes "li") own) e)
    (λ last. ap (λ t. cond t (register i.rd ∷ last ∷ []) (register i.rd ∷ register i.rs1 ∷ last ∷ [])) e)
stands_add own i false e =
    in_full (ap not e) (ap (λ t. cond t (codes "li") own) e)
    (λ last. ap (λ t. cond t (register i.rd ∷ last ∷ []) (register i.rd ∷ register i.rs1 ∷ last ∷ [])) e)

stands_jump : (own : List ℕ) (i : Inst) (t : Bool) → (i.rd == 0) ≡ t → Stands own Jump i
stands_jump own i true e =
    as_j refl (zero_from_test i.rd e) (ap (λ t. cond t (codes "j") own) e)
    (λ last. ap (λ t. cond t (last ∷ []) (register i.rd ∷ last ∷ [])) e)
stands_jump own i false e =
    in_full (ap not e) (ap (λ t. cond t (codes "j") own) e)
    (λ last. ap (λ t. cond t (last ∷ []) (register i.rd ∷ last ∷ [])) e)

pub stands : (own : List ℕ) (s : Shape) (i : Inst) → Stands own s i
stands own AddImmediate i = stands_add own i (i.rs1 == 0) refl
stands own Jump i = stands_jump own i (i.rd == 0) refl
stands own Registers i = in_full refl refl (λ last. refl)
stands own Immediate i = in_full refl refl (λ last. refl)
stands own Load i = in_full refl refl (λ last. refl)
stands own Store i = in_full refl refl (λ last. refl)
stands own Branch i = in_full refl refl (λ last. refl)
stands own Upper i = in_full refl refl (λ last. refl)
stands own JumpRegister i = in_full refl refl (λ last. refl)
stands own Nothing i = in_full refl refl (λ last. refl)

abbrev pub stands_of : (i : Inst) → Stands (mnemonic i.op) (shape i.op) i
stands_of i = stands (mnemonic i.op) (shape i.op) i

-- The words.

pub li_is_none : (op : Op) → mnemonic op ≡ codes "li" → ⊥
li_is_none op e = mnemonic_differs (codes "li") refl op e

pub j_is_none : (op : Op) → mnemonic op ≡ codes "j" → ⊥
j_is_none op e = mnemonic_differs (codes "j") refl op e

pub li_is_no_j : codes "li" ≡ codes "j" → ⊥
li_is_no_j e = omega (arith, head_same _ _ _ _ e)

pub jump_op : (op : Op) → shape op ≡ Jump → op ≡ Jal
jump_op op e =
    mnemonic_once op Jal
    (same_from_bytes (mnemonic op) (codes "jal")
    (right_of (is_jump (shape op)) (bytes_eq (mnemonic op) (codes "jal")) (ap is_jump e)
    (each (λ o. not (is_jump (shape o)) || bytes_eq (mnemonic o) (codes "jal"))
    (below_holds 65 (λ n. not (is_jump (shape (op_at n))) || bytes_eq (mnemonic (op_at n)) (codes "jal")) refl) op)))

pub add_op : (op : Op) → shape op ≡ AddImmediate → op ≡ Addi
add_op op e =
    mnemonic_once op Addi
    (same_from_bytes (mnemonic op) (codes "addi")
    (right_of (is_add (shape op)) (bytes_eq (mnemonic op) (codes "addi")) (ap is_add e)
    (each (λ o. not (is_add (shape o)) || bytes_eq (mnemonic o) (codes "addi"))
    (below_holds 65 (λ n. not (is_add (shape (op_at n))) || bytes_eq (mnemonic (op_at n)) (codes "addi")) refl) op)))

-- Operands tell the registers.

pub registers_once : (s : Shape) (i j : Inst) (a b : List ℕ) → i.op ≡ j.op → HasRegisters s i → HasRegisters s j → i.imm ≡ j.imm →
    operands (operands_open s i a) ≡ operands (operands_open s j b) → (i ≡ j) × (a ≡ b)
registers_once AddImmediate i j a b o h k z e =
    let two = second_once _ i.rd i.rs1 j.rd j.rs1 _ _ h.0 h.1 k.0 k.1 refl e in
    (same_inst i j o two.0 two.1 (h.2 ∙ sym k.2) z, two.2)
registers_once Immediate i j a b o h k z e =
    let two = second_once _ i.rd i.rs1 j.rd j.rs1 _ _ h.0 h.1 k.0 k.1 refl e in
    (same_inst i j o two.0 two.1 (h.2 ∙ sym k.2) z, two.2)
registers_once Load i j a b o h k z e =
    let all = address_once _ i.rd j.rd i.rs1 j.rs1 _ _ h.0 k.0 h.1 k.1 refl e in
    (same_inst i j o all.0 all.2 (h.2 ∙ sym k.2) z, all.1)
registers_once JumpRegister i j a b o h k z e =
    let all = address_once _ i.rd j.rd i.rs1 j.rs1 _ _ h.0 k.0 h.1 k.1 refl e in
    (same_inst i j o all.0 all.2 (h.2 ∙ sym k.2) z, all.1)
registers_once Branch i j a b o h k z e =
    let two = second_once _ i.rs1 i.rs2 j.rs1 j.rs2 _ _ h.1 h.2 k.1 k.2 refl e in
    (same_inst i j o (h.0 ∙ sym k.0) two.0 two.1 z, two.2)
registers_once Upper i j a b o h k z e =
    let one = first_once _ i.rd j.rd _ _ h.0 k.0 refl e in
    (same_inst i j o one.0 (h.1 ∙ sym k.1) (h.2 ∙ sym k.2) z, one.1)
registers_once Jump i j a b o h k z e =
    let one = first_once _ i.rd j.rd _ _ h.0 k.0 refl e in
    (same_inst i j o one.0 (h.1 ∙ sym k.1) (h.2 ∙ sym k.2) z, one.1)
registers_once Registers i j a b o h k z e = absurd (h)
registers_once Store i j a b o h k z e = absurd (h)
registers_once Nothing i j a b o h k z e = absurd (h)

-- Two such lines.

abbrev word : Inst → List ℕ
word i = word_to (shape i.op) (mnemonic i.op) i

abbrev texts : Inst → List ℕ → List (List ℕ)
texts i last = operands_to (shape i.op) i last

pub open_no_tab : (i : Inst) → IsAbsent 9 (word i)
open_no_tab i = of (stands_of i)
  where
    of : Stands (mnemonic i.op) (shape i.op) i → IsAbsent 9 (word i)
    of (in_full stands w o) = subst (IsAbsent 9) (sym w) (mnemonic_no_tab i.op)
    of (as_li s r w o) = subst (IsAbsent 9) (sym w) (absent_from_test 9 (codes "li") refl)
    of (as_j s r w o) = subst (IsAbsent 9) (sym w) (absent_from_test 9 (codes "j") refl)

given_by : (s : Shape) (i : Inst) (last : List ℕ) → IsGiven (operands_open s i last)
given_by AddImmediate i last = tt
given_by Jump i last = tt
given_by Registers i last = tt
given_by Immediate i last = tt
given_by Load i last = tt
given_by Store i last = tt
given_by Branch i last = tt
given_by Upper i last = tt
given_by JumpRegister i last = tt
given_by Nothing i last = tt

pub open_parts : (i : Inst) (last : List ℕ) → line_to i last ≡ 9 ∷ (word i ++ 9 ∷ operands (texts i last))
open_parts i last = spelled_given (word i) (texts i last) (of (stands_of i))
  where
    of : Stands (mnemonic i.op) (shape i.op) i → IsGiven (texts i last)
    of (in_full stands w o) = subst IsGiven (sym (o last)) (given_by (shape i.op) i last)
    of (as_li s r w o) = subst IsGiven (sym (o last)) tt
    of (as_j s r w o) = subst IsGiven (sym (o last)) tt

li_once : (i j : Inst) (a b : List ℕ) → IsOpen i → IsOpen j → shape i.op ≡ AddImmediate → shape j.op ≡ AddImmediate → i.rs1 ≡ 0 → j.rs1 ≡ 0 →
    operands (register i.rd ∷ a ∷ []) ≡ operands (register j.rd ∷ b ∷ []) → (i ≡ j) × (a ≡ b)
li_once i j a b h k is_i is_j p q e =
    let hi : HasRegisters AddImmediate i = subst (λ s. HasRegisters s i) is_i h.registers in
    let hj : HasRegisters AddImmediate j = subst (λ s. HasRegisters s j) is_j k.registers in
    let one = first_once _ i.rd j.rd a b hi.0 hj.0 refl e in
    (same_inst i j (add_op i.op is_i ∙ sym (add_op j.op is_j)) one.0 (p ∙ sym q) (hi.2 ∙ sym hj.2) (h.zero ∙ sym k.zero), one.1)

j_once : (i j : Inst) → IsOpen i → IsOpen j → shape i.op ≡ Jump → shape j.op ≡ Jump → i.rd ≡ 0 → j.rd ≡ 0 → i ≡ j
j_once i j h k is_i is_j p q =
    let hi : HasRegisters Jump i = subst (λ s. HasRegisters s i) is_i h.registers in
    let hj : HasRegisters Jump j = subst (λ s. HasRegisters s j) is_j k.registers in
    same_inst i j (jump_op i.op is_i ∙ sym (jump_op j.op is_j)) (p ∙ sym q) (hi.1 ∙ sym hj.1) (hi.2 ∙ sym hj.2) (h.zero ∙ sym k.zero)

pub full_once : (i j : Inst) (a b : List ℕ) → IsOpen i → IsOpen j → i.op ≡ j.op →
    operands (operands_open (shape i.op) i a) ≡ operands (operands_open (shape j.op) j b) → (i ≡ j) × (a ≡ b)
full_once i j a b h k o e =
    registers_once (shape i.op) i j a b o h.registers (subst (λ op. HasRegisters (shape op) j) (sym o) k.registers) (h.zero ∙ sym k.zero)
    (e ∙ ap (λ op. operands (operands_open (shape op) j b)) (sym o))

-- the line tells the instruction and the text
pub open_once : (i j : Inst) (a b : List ℕ) → IsOpen i → IsOpen j → line_to i a ≡ line_to j b → (i ≡ j) × (a ≡ b)
open_once i j a b h k e = of (stands_of i) (stands_of j)
  where
    parts : (word i ≡ word j) × (operands (texts i a) ≡ operands (texts j b))
    parts = cut_once 9 (word i) (operands (texts i a)) (word j) (operands (texts j b))
        (tail_same 9 9 _ _ (sym (open_parts i a) ∙ e ∙ open_parts j b)) (open_no_tab i) (open_no_tab j)

    told : (x y : List (List ℕ)) → texts i a ≡ x → texts j b ≡ y → operands x ≡ operands y
    told x y p q = sym (ap operands p) ∙ parts.1 ∙ ap operands q

    of : Stands (mnemonic i.op) (shape i.op) i → Stands (mnemonic j.op) (shape j.op) j → (i ≡ j) × (a ≡ b)
    of (in_full s w o) (in_full t v q) = full_once i j a b h k (mnemonic_once i.op j.op (sym w ∙ parts.0 ∙ v)) (told _ _ (o a) (q b))
    of (as_li s r w o) (as_li t u v q) = li_once i j a b h k s t r u (told _ _ (o a) (q b))
    of (as_j s r w o) (as_j t u v q) = (j_once i j h k s t r u, told _ _ (o a) (q b))
    of (in_full s w o) (as_li t u v q) = absurd (li_is_none i.op (sym w ∙ parts.0 ∙ v))
    of (in_full s w o) (as_j t u v q) = absurd (j_is_none i.op (sym w ∙ parts.0 ∙ v))
    of (as_li s r w o) (in_full t v q) = absurd (li_is_none j.op (sym v ∙ sym parts.0 ∙ w))
    of (as_li s r w o) (as_j t u v q) = absurd (li_is_no_j (sym w ∙ parts.0 ∙ v))
    of (as_j s r w o) (in_full t v q) = absurd (j_is_none j.op (sym v ∙ sym parts.0 ∙ w))
    of (as_j s r w o) (as_li t u v q) = absurd (li_is_no_j (sym v ∙ sym parts.0 ∙ w))

-- What the word and the operands of a line tell of it.

pub finds_map : {A B : Type 0} (P Q : A → B → Type 0) (r : Option (A × Bor B)) → ((x : A) (y : B) → P x y → Q x y) → ((x : A) (y : B) → Q x y → P x y) → Finds P r → Finds Q r
finds_map P Q (Some found) to from h = to found.0 found.1.now h
finds_map P Q None to from h = λ x y q. h x y (from x y q)

pub li_found : (w ops : List ℕ) (r : Option (Inst × Bor (List ℕ))) → w ≡ codes "li" → Finds (IsOpenLi ops) r → Finds (IsOpenWith w ops) r
li_found w ops r e = finds_map (IsOpenLi ops) (IsOpenWith w ops) r to from
  where
    to : (i : Inst) (last : List ℕ) → IsOpenLi ops i last → IsOpenWith w ops i last
    to i last h = of (stands_of i)
      where
        by_test : (cond (i.rs1 == 0) (codes "li") (mnemonic i.op) ≡ codes "li") × (cond (i.rs1 == 0) (register i.rd ∷ last ∷ []) (register i.rd ∷ register i.rs1 ∷ last ∷ []) ≡ register i.rd ∷ last ∷ [])
        by_test =
            let zero : (i.rs1 == 0) ≡ true = ap (λ n. n == 0) h.2 in
            (ap (λ t. cond t (codes "li") (mnemonic i.op)) zero, ap (λ t. cond t (register i.rd ∷ last ∷ []) (register i.rd ∷ register i.rs1 ∷ last ∷ [])) zero)

        of : Stands (mnemonic i.op) (shape i.op) i → IsOpenWith w ops i last
        of st =
            let word_is : word_to (shape i.op) (mnemonic i.op) i ≡ codes "li" = ap (λ s. word_to s (mnemonic i.op) i) h.1 ∙ by_test.0 in
            let texts_are : operands_to (shape i.op) i last ≡ register i.rd ∷ last ∷ [] = ap (λ s. operands_to s i last) h.1 ∙ by_test.1 in
            (h.0, e ∙ sym word_is, h.3 ∙ ap operands (sym texts_are))

    from : (i : Inst) (last : List ℕ) → IsOpenWith w ops i last → IsOpenLi ops i last
    from i last h = of (stands_of i)
      where
        of : Stands (mnemonic i.op) (shape i.op) i → IsOpenLi ops i last
        of (in_full s v o) = absurd (li_is_none i.op (sym v ∙ sym h.1 ∙ e))
        of (as_li s z v o) = (h.0, s, z, h.2 ∙ ap operands (o last))
        of (as_j s z v o) = absurd (li_is_no_j (sym e ∙ h.1 ∙ v))

pub full_found : (w ops : List ℕ) (op : Op) (r : Option (Inst × Bor (List ℕ))) → w ≡ mnemonic op → Finds (IsOpenInFull op ops) r → Finds (IsOpenWith w ops) r
full_found w ops op r e = finds_map (IsOpenInFull op ops) (IsOpenWith w ops) r to from
  where
    to : (i : Inst) (last : List ℕ) → IsOpenInFull op ops i last → IsOpenWith w ops i last
    to i last h = of (stands_of i)
      where
        stands_too : stands_open (shape i.op) i ≡ true
        stands_too = ap (λ o. stands_open (shape o) i) h.1 ∙ h.2

        own : w ≡ mnemonic i.op
        own = e ∙ ap mnemonic (sym h.1)

        told : ops ≡ operands (operands_open (shape i.op) i last)
        told = h.3 ∙ ap (λ o. operands (operands_open (shape o) i last)) (sym h.1)

        of : Stands (mnemonic i.op) (shape i.op) i → IsOpenWith w ops i last
        of (in_full s v o) = (h.0, own ∙ sym v, told ∙ ap operands (sym (o last)))
        of (as_li s z v o) = absurd (false≢true (sym (ap not (ap (λ n. n == 0) z)) ∙ sym (ap (λ t. stands_open t i) s) ∙ stands_too))
        of (as_j s z v o) = absurd (false≢true (sym (ap not (ap (λ n. n == 0) z)) ∙ sym (ap (λ t. stands_open t i) s) ∙ stands_too))

    from : (i : Inst) (last : List ℕ) → IsOpenWith w ops i last → IsOpenInFull op ops i last
    from i last h = of (stands_of i)
      where
        of : Stands (mnemonic i.op) (shape i.op) i → IsOpenInFull op ops i last
        of (in_full s v o) =
            let same : i.op ≡ op = mnemonic_once i.op op (sym v ∙ sym h.1 ∙ e) in
            (h.0, same, ap (λ o. stands_open (shape o) i) (sym same) ∙ s, h.2 ∙ ap operands (o last) ∙ ap (λ o. operands (operands_open (shape o) i last)) same)
        of (as_li s z v o) = absurd (li_is_none op (sym e ∙ h.1 ∙ v))
        of (as_j s z v o) = absurd (j_is_none op (sym e ∙ h.1 ∙ v))

-- a line with the word `j`
pub j_found : (w ops : List ℕ) → w ≡ codes "j" → IsOpenWith w ops (record { op = Jal; rd = 0; rs1 = 0; rs2 = 0; imm = pos 0 }) ops
j_found w ops e = (record { registers = (omega arith, refl, refl); zero = refl; takes = refl }, e, refl)

-- no other word
pub none_found : (w ops : List ℕ) → (w ≡ codes "li" → ⊥) → (w ≡ codes "j" → ⊥) → ((op : Op) → w ≡ mnemonic op → ⊥) → (i : Inst) (last : List ℕ) → IsOpenWith w ops i last → ⊥
none_found w ops no_li no_j no_op i last h = of (stands_of i)
  where
    of : Stands (mnemonic i.op) (shape i.op) i → ⊥
    of (in_full s v o) = no_op i.op (h.1 ∙ v)
    of (as_li s z v o) = no_li (h.1 ∙ v)
    of (as_j s z v o) = no_j (h.1 ∙ v)

pub line_found : (line rest w ops : List ℕ) (r : Option (Inst × Bor (List ℕ))) → line ≡ 9 ∷ rest → rest ≡ w ++ 9 ∷ ops → IsAbsent 9 w → Finds (IsOpenWith w ops) r → Finds (IsLineOf line) r
line_found line rest w ops r e cut absent = finds_map (IsOpenWith w ops) (IsLineOf line) r to from
  where
    to : (i : Inst) (last : List ℕ) → IsOpenWith w ops i last → IsLineOf line i last
    to i last h =
        (h.0, e ∙ ap (λ xs. 9 ∷ xs) (cut ∙ ap (λ v. v ++ 9 ∷ ops) h.1 ∙ ap (λ o. word i ++ 9 ∷ o) h.2) ∙ sym (open_parts i last))

    from : (i : Inst) (last : List ℕ) → IsLineOf line i last → IsOpenWith w ops i last
    from i last h =
        let parts = cut_once 9 w ops (word i) (operands (texts i last))
        (sym cut ∙ tail_same 9 9 rest _ (sym e ∙ h.1 ∙ open_parts i last)) absent (open_no_tab i) in
        (h.0, parts.0, parts.1)

-- a line with one tab
pub none_uncut : (line rest : List ℕ) → line ≡ 9 ∷ rest → ((prefix back : List ℕ) → rest ≡ prefix ++ 9 ∷ back → ⊥) → (i : Inst) (last : List ℕ) → IsLineOf line i last → ⊥
none_uncut line rest e uncut i last h = uncut (word i) (operands (texts i last)) (tail_same 9 9 rest _ (sym e ∙ h.1 ∙ open_parts i last))

pub none_untabbed : (line : List ℕ) → ((rest : List ℕ) → line ≡ 9 ∷ rest → ⊥) → (i : Inst) (last : List ℕ) → IsLineOf line i last → ⊥
none_untabbed line none i last h = none (word i ++ 9 ∷ operands (texts i last)) (h.1 ∙ open_parts i last)

-- how such a line begins
pub open_begins : (i : Inst) (last : List ℕ) → BeginsCode (line_to i last)
open_begins i last = begins_by (word i) (texts i last) (of (stands_of i))
  where
    of : Stands (mnemonic i.op) (shape i.op) i → starts_plain (word i) ≡ true
    of (in_full s v o) = ap starts_plain v ∙ plain_mnemonic i.op
    of (as_li s z v o) = ap starts_plain v
    of (as_j s z v o) = ap starts_plain v

-- A test of bytes that all bytes of a line pass but those of the text.

and_true : (a : Bool) → (a && true) ≡ a
and_true true = refl
and_true false = refl

module _ (p : ℕ → Bool) where
  before_kept : (xs ys : List ℕ) → list_all p xs ≡ true → list_all p (xs ++ ys) ≡ list_all p ys
  before_kept xs ys h = list_all-append p xs ys ∙ ap (λ b. b && list_all p ys) h

  after_kept : (xs ys : List ℕ) → list_all p ys ≡ true → list_all p (xs ++ ys) ≡ list_all p xs
  after_kept xs ys h = list_all-append p xs ys ∙ ap (λ b. list_all p xs && b) h ∙ and_true (list_all p xs)

  -- it passes the names of registers and instructions, and what stands between
  pub record PassesWords : Type 0 where
    pub registers : list_all (list_all p) register_names ≡ true
    pub words : below 65 (λ n. list_all p (mnemonic (op_at n))) ≡ true
    pub tab : p 9 ≡ true
    pub blank : p 32 ≡ true
    pub opening : p 40 ≡ true
    pub closing : p 41 ≡ true
    pub comma : p 44 ≡ true
    pub in_j : p 106 ≡ true
    pub in_l : p 108 ≡ true
    pub in_i : p 105 ≡ true

  name_kept : (names : List (List ℕ)) → list_all (list_all p) names ≡ true → (n : ℕ) → list_all p (get_or names n []) ≡ true
  name_kept [] all n = refl
  name_kept (name ∷ names) all zero = (and_parts (list_all p name) (list_all (list_all p) names) all).0
  name_kept (name ∷ names) all (suc n) = name_kept names (and_parts (list_all p name) (list_all (list_all p) names) all).1 n

  module _ (h : PassesWords) where
    register_kept : (r : ℕ) → list_all p (register r) ≡ true
    register_kept r = name_kept register_names h.registers r

    comma_kept : list_all p (44 ∷ 32 ∷ []) ≡ true
    comma_kept = ap (λ b. b && (p 32 && true)) h.comma ∙ ap (λ b. b && true) h.blank

    -- an operand before others
    next_kept : (first second : List ℕ) (more : List (List ℕ)) → list_all p first ≡ true →
        list_all p (operands (first ∷ second ∷ more)) ≡ list_all p (operands (second ∷ more))
    next_kept first second more e =
        before_kept (first ++ codes ", ") (operands (second ∷ more)) (before_kept first (codes ", ") e ∙ comma_kept)

    base_kept : (offset : List ℕ) (base : ℕ) → list_all p (based_on offset base) ≡ list_all p offset
    base_kept offset base =
        after_kept offset (40 ∷ (register base ++ 41 ∷ []))
        (ap (λ b. b && list_all p (register base ++ 41 ∷ [])) h.opening
        ∙ before_kept (register base) (41 ∷ []) (register_kept base) ∙ ap (λ b. b && true) h.closing)

    one_kept : (r : ℕ) (last : List ℕ) → list_all p (operands (register r ∷ last ∷ [])) ≡ list_all p last
    one_kept r last = next_kept (register r) last [] (register_kept r)

    two_kept : (r s : ℕ) (last : List ℕ) → list_all p (operands (register r ∷ register s ∷ last ∷ [])) ≡ list_all p last
    two_kept r s last = next_kept (register r) (register s) (last ∷ []) (register_kept r) ∙ one_kept s last

    operands_kept : (s : Shape) (i : Inst) (last : List ℕ) → list_all p (operands (operands_open s i last)) ≡ list_all p last
    operands_kept AddImmediate i last = two_kept i.rd i.rs1 last
    operands_kept Immediate i last = two_kept i.rd i.rs1 last
    operands_kept Load i last = one_kept i.rd (based_on last i.rs1) ∙ base_kept last i.rs1
    operands_kept JumpRegister i last = one_kept i.rd (based_on last i.rs1) ∙ base_kept last i.rs1
    operands_kept Store i last = one_kept i.rs2 (based_on last i.rs1) ∙ base_kept last i.rs1
    operands_kept Branch i last = two_kept i.rs1 i.rs2 last
    operands_kept Upper i last = one_kept i.rd last
    operands_kept Jump i last = one_kept i.rd last
    operands_kept Registers i last = refl
    operands_kept Nothing i last = refl

    word_kept : (i : Inst) → list_all p (word i) ≡ true
    word_kept i = of (stands_of i)
      where
        of : Stands (mnemonic i.op) (shape i.op) i → list_all p (word i) ≡ true
        of (in_full s v o) = ap (list_all p) v ∙ each (λ o. list_all p (mnemonic o)) (below_holds 65 (λ n. list_all p (mnemonic (op_at n))) h.words) i.op
        of (as_li s z v o) = ap (list_all p) v ∙ ap (λ b. b && (p 105 && true)) h.in_l ∙ ap (λ b. b && true) h.in_i
        of (as_j s z v o) = ap (list_all p) v ∙ ap (λ b. b && true) h.in_j

    texts_kept : (i : Inst) (last : List ℕ) → list_all p (operands (texts i last)) ≡ list_all p last
    texts_kept i last = of (stands_of i)
      where
        of : Stands (mnemonic i.op) (shape i.op) i → list_all p (operands (texts i last)) ≡ list_all p last
        of (in_full s v o) = ap (λ t. list_all p (operands t)) (o last) ∙ operands_kept (shape i.op) i last
        of (as_li s z v o) = ap (λ t. list_all p (operands t)) (o last) ∙ one_kept i.rd last
        of (as_j s z v o) = ap (λ t. list_all p (operands t)) (o last)

    pub open_kept : (i : Inst) (last : List ℕ) → list_all p (line_to i last) ≡ list_all p last
    open_kept i last =
        ap (list_all p) (open_parts i last)
        ∙ ap (λ b. b && list_all p (word i ++ 9 ∷ operands (texts i last))) h.tab
        ∙ before_kept (word i) (9 ∷ operands (texts i last)) (word_kept i)
        ∙ ap (λ b. b && list_all p (operands (texts i last))) h.tab
        ∙ texts_kept i last

-- such a line is none of code where the text could stand in none
pub open_calm : (i : Inst) (last : List ℕ) → are_calm (line_to i last) ≡ are_calm last
open_calm i last = open_kept is_calm (record { registers = refl; words = refl; tab = refl; blank = refl; opening = refl; closing = refl; comma = refl; in_j = refl; in_l = refl; in_i = refl }) i last

pub open_is_no_code : (i j : Inst) (last : List ℕ) → IsRead j → are_calm last ≡ false → instruction_line j ≡ line_to i last → ⊥
open_is_no_code i j last read other e = false≢true (sym other ∙ sym (open_calm i last) ∙ sym (ap are_calm e) ∙ code_calm j read)

-- and without a line feed where the text is
abbrev pub is_no_feed : ℕ → Bool
is_no_feed b = not (b == 10)

pub open_unfed : (i : Inst) (last : List ℕ) → list_all is_no_feed last ≡ true → IsAbsent 10 (line_to i last)
open_unfed i last h = absent_from_test 10 (line_to i last) (open_kept is_no_feed (record { registers = refl; words = refl; tab = refl; blank = refl; opening = refl; closing = refl; comma = refl; in_j = refl; in_l = refl; in_i = refl }) i last ∙ h)
