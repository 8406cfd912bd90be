-- The word and the operands of a line, and what the word tells of the form.
use Rattle.std.proofs.Common.{◌≡◌, ◌≢◌, ◌<◌, ◌==◌, ◌&&◌, ℕ, ℤ, pos, negsuc, List, [], ◌∷◌, Bool, true, false, cond, codes, refl, sym, ap, arith}
use Rattle.std.proofs.lemmas.Bool.Decides.{nat_tests}
use Rattle.std.specs.Fmt.{signed_decimal}
use Rattle.rv_isa.specs.Text.{instruction_line, is_zero, register, spelled_by, spelled_line}
use Rattle.rv_isa.specs.Table.{mnemonic, shape}
use Rattle.rv_isa.specs.declared.inst.Inst.{Inst}
use Rattle.rv_isa.specs.declared.op.Op.{Op}
use Rattle.rv_isa.specs.declared.shape.Shape.{Shape}
use Rattle.rv_isa.specs.declared.shape.Shape.TheVariants.{Registers, AddImmediate, Immediate, Load, Store, Branch, Upper, Jump, JumpRegister, Nothing}
use Rattle.asm_inst.specs.Forms.{Form, as_j, as_li, as_mv, as_ret, form_by, in_full, in_full_form, line_operands, line_word, operands_by, operands_in, word_in}
use Rattle.asm_inst.proofs.BytesLemmas.{head_same}
use Rattle.std.proofs.lemmas.Bool.{and_parts}
use Rattle.asm_inst.proofs.RegisterLemmas.{same_from_test}
use Rattle.asm_inst.proofs.MnemonicLemmas.{mnemonic_differs}

add_parts : (word : List ℕ) (i : Inst) (a b : Bool) →
    cond a (spelled_line (codes "li") (register i.rd ∷ signed_decimal i.imm ∷ []))
    (cond b (spelled_line (codes "mv") (register i.rd ∷ register i.rs1 ∷ [])) (spelled_line word (operands_by AddImmediate i)))
    ≡ spelled_line (word_in (cond a as_li (cond b as_mv in_full)) word) (operands_in (cond a as_li (cond b as_mv in_full)) AddImmediate i)
add_parts word i true b = refl
add_parts word i false true = refl
add_parts word i false false = refl

jump_parts : (word : List ℕ) (i : Inst) (a : Bool) →
    cond a (spelled_line (codes "j") (signed_decimal i.imm ∷ [])) (spelled_line word (operands_by Jump i))
    ≡ spelled_line (word_in (cond a as_j in_full) word) (operands_in (cond a as_j in_full) Jump i)
jump_parts word i true = refl
jump_parts word i false = refl

return_parts : (word : List ℕ) (i : Inst) (a : Bool) →
    cond a (spelled_line (codes "ret") []) (spelled_line word (operands_by JumpRegister i))
    ≡ spelled_line (word_in (cond a as_ret in_full) word) (operands_in (cond a as_ret in_full) JumpRegister i)
return_parts word i true = refl
return_parts word i false = refl

parts_by : (s : Shape) (word : List ℕ) (i : Inst) →
    spelled_by s word i ≡ spelled_line (word_in (form_by s i) word) (operands_in (form_by s i) s i)
parts_by Registers word i = refl
parts_by AddImmediate word i = add_parts word i (i.rs1 == 0) (is_zero i.imm)
parts_by Immediate word i = refl
parts_by Load word i = refl
parts_by Store word i = refl
parts_by Branch word i = refl
parts_by Upper word i = refl
parts_by Jump word i = jump_parts word i (i.rd == 0)
parts_by JumpRegister word i = return_parts word i (i.rd == 0 && i.rs1 == 1 && is_zero i.imm)
parts_by Nothing word i = refl

pub line_parts : (i : Inst) → instruction_line i ≡ spelled_line (line_word i) (line_operands i)
line_parts i = parts_by (shape i.op) (mnemonic i.op) i

-- The word tells the form.

pub li_word : (f : Form) (op : Op) → codes "li" ≡ word_in f (mnemonic op) → f ≡ as_li
li_word in_full op e = absurd (mnemonic_differs (codes "li") refl op (sym e))
li_word as_li op e = refl
li_word as_mv op e = absurd (omega (arith, head_same _ _ _ _ e))
li_word as_j op e = absurd (omega (arith, head_same _ _ _ _ e))
li_word as_ret op e = absurd (omega (arith, head_same _ _ _ _ e))

pub mv_word : (f : Form) (op : Op) → codes "mv" ≡ word_in f (mnemonic op) → f ≡ as_mv
mv_word in_full op e = absurd (mnemonic_differs (codes "mv") refl op (sym e))
mv_word as_li op e = absurd (omega (arith, head_same _ _ _ _ e))
mv_word as_mv op e = refl
mv_word as_j op e = absurd (omega (arith, head_same _ _ _ _ e))
mv_word as_ret op e = absurd (omega (arith, head_same _ _ _ _ e))

-- What a form tells of the instruction.

pub in_full_is : (f : Form) → in_full_form f ≡ true → f ≡ in_full
in_full_is in_full h = refl
in_full_is as_li h = absurd (cc)
in_full_is as_mv h = absurd (cc)
in_full_is as_j h = absurd (cc)
in_full_is as_ret h = absurd (cc)

zero_from_test : (n : ℕ) → (n == 0) ≡ true → n ≡ 0
zero_from_test n h = grind (arith, nat_tests)

more_from_test : (n : ℕ) → (n == 0) ≡ false → 0 < n
more_from_test n h = grind (arith, nat_tests)

pub is_zero_is : (imm : ℤ) → is_zero imm ≡ true → imm ≡ pos 0
is_zero_is (pos n) h = ap pos (zero_from_test n h)
is_zero_is (negsuc n) h = absurd (cc)

li_add : (rs1 : ℕ) (b : Bool) → cond (rs1 == 0) as_li (cond b as_mv in_full) ≡ as_li → rs1 ≡ 0
li_add rs1 b h = by_test (rs1 == 0) b h refl
  where
    by_test : (a b : Bool) → cond a as_li (cond b as_mv in_full) ≡ as_li → (rs1 == 0) ≡ a → rs1 ≡ 0
    by_test true b h is = zero_from_test rs1 is
    by_test false true h is = absurd (cc)
    by_test false false h is = absurd (cc)

mv_add : (rs1 : ℕ) (b : Bool) → cond (rs1 == 0) as_li (cond b as_mv in_full) ≡ as_mv → (0 < rs1) × (b ≡ true)
mv_add rs1 b h = by_test (rs1 == 0) b h refl
  where
    by_test : (a b : Bool) → cond a as_li (cond b as_mv in_full) ≡ as_mv → (rs1 == 0) ≡ a → (0 < rs1) × (b ≡ true)
    by_test true b h is = absurd (cc)
    by_test false true h is = (more_from_test rs1 is, refl)
    by_test false false h is = absurd (cc)

no_li : (a : Bool) (f : Form) → f ≢ as_li → in_full ≢ as_li → cond a f in_full ≢ as_li
no_li true f h k = h
no_li false f h k = k

-- `li` is an `addi` to x0
pub li_form : (s : Shape) (i : Inst) → form_by s i ≡ as_li → (s ≡ AddImmediate) × (i.rs1 ≡ 0)
li_form Registers i h = absurd (cc)
li_form AddImmediate i h = (refl, li_add i.rs1 (is_zero i.imm) h)
li_form Immediate i h = absurd (cc)
li_form Load i h = absurd (cc)
li_form Store i h = absurd (cc)
li_form Branch i h = absurd (cc)
li_form Upper i h = absurd (cc)
li_form Jump i h = absurd (no_li (i.rd == 0) as_j (λ e. cc) (λ e. cc) h)
li_form JumpRegister i h = absurd (no_li (i.rd == 0 && i.rs1 == 1 && is_zero i.imm) as_ret (λ e. cc) (λ e. cc) h)
li_form Nothing i h = absurd (cc)

no_mv : (a : Bool) (f : Form) → f ≢ as_mv → in_full ≢ as_mv → cond a f in_full ≢ as_mv
no_mv true f h k = h
no_mv false f h k = k

-- `mv` is an `addi` of 0 to another register
pub mv_form : (s : Shape) (i : Inst) → form_by s i ≡ as_mv → (s ≡ AddImmediate) × (0 < i.rs1) × (i.imm ≡ pos 0)
mv_form Registers i h = absurd (cc)
mv_form AddImmediate i h = let parts = mv_add i.rs1 (is_zero i.imm) h in (refl, parts.0, is_zero_is i.imm parts.1)
mv_form Immediate i h = absurd (cc)
mv_form Load i h = absurd (cc)
mv_form Store i h = absurd (cc)
mv_form Branch i h = absurd (cc)
mv_form Upper i h = absurd (cc)
mv_form Jump i h = absurd (no_mv (i.rd == 0) as_j (λ e. cc) (λ e. cc) h)
mv_form JumpRegister i h = absurd (no_mv (i.rd == 0 && i.rs1 == 1 && is_zero i.imm) as_ret (λ e. cc) (λ e. cc) h)
mv_form Nothing i h = absurd (cc)

pub mv_stands : (rs1 : ℕ) → 0 < rs1 → cond (rs1 == 0) as_li as_mv ≡ as_mv
mv_stands rs1 h = let other : (rs1 == 0) ≡ false = grind (arith, nat_tests) in ap (λ b. cond b as_li as_mv) other

abbrev pub is_jump : Shape → Bool
is_jump Jump = true
is_jump other = false

no_j : (a : Bool) (f : Form) → f ≢ as_j → in_full ≢ as_j → cond a f in_full ≢ as_j
no_j true f h k = h
no_j false f h k = k

no_j_add : (a b : Bool) → cond a as_li (cond b as_mv in_full) ≢ as_j
no_j_add true b = λ e. cc
no_j_add false true = λ e. cc
no_j_add false false = λ e. cc

-- `j` is a `jal`
pub j_form : (s : Shape) (i : Inst) → is_jump s ≡ false → form_by s i ≡ as_j → ⊥
j_form Registers i n h = absurd (cc)
j_form AddImmediate i n h = no_j_add (i.rs1 == 0) (is_zero i.imm) h
j_form Immediate i n h = absurd (cc)
j_form Load i n h = absurd (cc)
j_form Store i n h = absurd (cc)
j_form Branch i n h = absurd (cc)
j_form Upper i n h = absurd (cc)
j_form Jump i n h = absurd (cc)
j_form JumpRegister i n h = no_j (i.rd == 0 && i.rs1 == 1 && is_zero i.imm) as_ret (λ e. cc) (λ e. cc) h
j_form Nothing i n h = absurd (cc)

pub ret_word : (f : Form) (op : Op) → codes "ret" ≡ word_in f (mnemonic op) → f ≡ as_ret
ret_word in_full op e = absurd (mnemonic_differs (codes "ret") refl op (sym e))
ret_word as_li op e = absurd (omega (arith, head_same _ _ _ _ e))
ret_word as_mv op e = absurd (omega (arith, head_same _ _ _ _ e))
ret_word as_j op e = absurd (omega (arith, head_same _ _ _ _ e))
ret_word as_ret op e = refl

no_ret : (a b : Bool) → cond a as_li (cond b as_mv in_full) ≢ as_ret
no_ret true b = λ e. cc
no_ret false true = λ e. cc
no_ret false false = λ e. cc

no_ret_jump : (a : Bool) → cond a as_j in_full ≢ as_ret
no_ret_jump true = λ e. cc
no_ret_jump false = λ e. cc

ret_test : (rd rs1 : ℕ) (imm : ℤ) → cond (rd == 0 && rs1 == 1 && is_zero imm) as_ret in_full ≡ as_ret → (rd ≡ 0) × (rs1 ≡ 1) × (imm ≡ pos 0)
ret_test rd rs1 imm h = by_test (rd == 0 && rs1 == 1 && is_zero imm) h refl
  where
    by_test : (a : Bool) → cond a as_ret in_full ≡ as_ret → (rd == 0 && rs1 == 1 && is_zero imm) ≡ a → (rd ≡ 0) × (rs1 ≡ 1) × (imm ≡ pos 0)
    by_test true h is =
        let outer = and_parts (rd == 0 && rs1 == 1) (is_zero imm) is in
        let inner = and_parts (rd == 0) (rs1 == 1) outer.0 in
        (zero_from_test rd inner.0, same_from_test rs1 1 inner.1, is_zero_is imm outer.1)
    by_test false h is = absurd (cc)

-- `ret` is a `jalr` to ra
pub ret_form : (s : Shape) (i : Inst) → form_by s i ≡ as_ret → (s ≡ JumpRegister) × (i.rd ≡ 0) × (i.rs1 ≡ 1) × (i.imm ≡ pos 0)
ret_form Registers i h = absurd (cc)
ret_form AddImmediate i h = absurd (no_ret (i.rs1 == 0) (is_zero i.imm) h)
ret_form Immediate i h = absurd (cc)
ret_form Load i h = absurd (cc)
ret_form Store i h = absurd (cc)
ret_form Branch i h = absurd (cc)
ret_form Upper i h = absurd (cc)
ret_form Jump i h = absurd (no_ret_jump (i.rd == 0) h)
ret_form JumpRegister i h = let parts = ret_test i.rd i.rs1 i.imm h in (refl, parts.0, parts.1, parts.2)
ret_form Nothing i h = absurd (cc)
