-- The fields of an instruction, by the operands that it is written with and the format of its words.
use Rattle.std.proofs.Common.{◌≡◌, ◌<◌, ◌≤ℤ◌, ◌&&◌, ℤ, pos, negsuc, Bool, true, false, not, refl, sym, ap, subst, ◌∙◌, arith}
use Rattle.std.proofs.lemmas.Bool.Decides.{nat_tests}
use Rattle.std.proofs.lemmas.Int.{ints}
use Rattle.std.specs.Fmt.{signed_decimal}
use Rattle.rv_isa.specs.Encoding.{FitsRow, IsBranchDistance}
use Rattle.rv_isa.specs.Table.{row, shape}
use Rattle.rv_isa.specs.Text.{operands}
use Rattle.rv_isa.specs.declared.inst.Inst.{Inst}
use Rattle.rv_isa.specs.declared.op.Op.{Op}
use Rattle.rv_isa.specs.declared.row.Row.{Row}
use Rattle.rv_isa.specs.declared.row.Row.TheVariants.{RType, IType, Shift, ShiftW, SType, BType, UType}
use Rattle.rv_isa.specs.declared.shape.Shape.{Shape}
use Rattle.rv_isa.specs.declared.shape.Shape.TheVariants.{Registers, AddImmediate, Immediate, Load, Store, Branch, Upper, Jump, JumpRegister, Nothing}
use Rattle.asm_inst.specs.Forms.{IsGiven, operands_by}
use Rattle.asm_inst.specs.Grammar.{HasFields, IsBetween, IsRead, highest, is_in_text, lowest}
use Rattle.asm_inst.specs.Mnemonics.{op_at}
use Rattle.asm_inst.proofs.FormLemmas.{is_jump}
use Rattle.asm_inst.proofs.MnemonicLemmas.{each}
use Rattle.asm_inst.proofs.NumberLemmas.{IsSmall, number_once, small_between}
use Rattle.asm_inst.proofs.OperandLemmas.{address_once, first_once, second_once}
use Rattle.asm_inst.proofs.RegisterLemmas.{below_holds, register_once}

-- the format of the words of an instruction with such operands
abbrev pub agrees : Shape → Row → Bool
agrees Registers (RType opcode funct3 funct7) = true
agrees AddImmediate (IType opcode funct3) = true
agrees Immediate (IType opcode funct3) = true
agrees Immediate (Shift opcode funct3 funct6) = true
agrees Immediate (ShiftW opcode funct3 funct7) = true
agrees Load (IType opcode funct3) = true
agrees Store (SType opcode funct3) = true
agrees Branch (BType opcode funct3) = true
agrees Upper (UType opcode) = true
agrees JumpRegister (IType opcode funct3) = true
agrees Jump r = true
agrees Nothing r = true
agrees s r = false

pub all_agree : (op : Op) → agrees (shape op) (row op) ≡ true
all_agree op = each (λ o. agrees (shape o) (row o)) (below_holds 65 (λ n. agrees (shape (op_at n)) (row (op_at n))) refl) op

-- A branch by a number.

eight : (imm : ℤ) → IsBetween (pos 8) (pos 8) imm → imm ≡ pos 8
eight (pos n) h = ap pos (omega (arith, ints, h.0, h.1))
eight (negsuc n) h = absurd (omega (arith, ints, h.0))

branches : (imm : ℤ) → IsBetween (pos 8) (pos 8) imm → IsBranchDistance imm
branches imm h = subst IsBranchDistance (sym (eight imm h)) (omega (arith, ints), omega (arith, ints), refl)

zero_between : (imm : ℤ) → imm ≡ pos 0 → IsBetween (pos 0) (pos 0) imm
zero_between imm h = subst (IsBetween (pos 0) (pos 0)) (sym h) (omega (arith, ints), omega (arith, ints))

abbrev Fits : Row → Inst → Type 0
Fits r i = (i.rd < 32) × (i.rs1 < 32) × (i.rs2 < 32) × FitsRow r i × IsBetween (lowest r) (highest r) i.imm

fits_from : (s : Shape) (r : Row) (i : Inst) → agrees s r ≡ true → HasFields s r i → Fits r i
fits_from Registers (RType opcode funct3 funct7) i a h = (h.0, h.1, h.2, h.3, zero_between i.imm h.3)
fits_from AddImmediate (IType opcode funct3) i a h = (h.0, h.1, omega (arith, h.2), (h.2, h.3), h.3)
fits_from Immediate (IType opcode funct3) i a h = (h.0, h.1, omega (arith, h.2), (h.2, h.3), h.3)
fits_from Immediate (Shift opcode funct3 funct6) i a h = (h.0, h.1, omega (arith, h.2), (h.2, h.3), h.3)
fits_from Immediate (ShiftW opcode funct3 funct7) i a h = (h.0, h.1, omega (arith, h.2), (h.2, h.3), h.3)
fits_from Load (IType opcode funct3) i a h = (h.0, h.1, omega (arith, h.2), (h.2, h.3), h.3)
fits_from Store (SType opcode funct3) i a h = (omega (arith, h.0), h.1, h.2, (h.0, h.3), h.3)
fits_from Branch (BType opcode funct3) i a h = (omega (arith, h.0), h.1, h.2, (h.0, branches i.imm h.3), h.3)
fits_from Upper (UType opcode) i a h = (h.0, omega (arith, h.1), omega (arith, h.2), (h.1, h.2, h.3), h.3)
fits_from JumpRegister (IType opcode funct3) i a h = (h.0, h.1, omega (arith, h.2), (h.2, h.3), h.3)
fits_from Jump r i a h = absurd (h)
fits_from Nothing r i a h = absurd (h)
fits_from s r i a h = absurd (cc)

-- whether an instruction has operands, and is no jump
abbrev is_plain : Shape → Bool
is_plain Jump = false
is_plain Nothing = false
is_plain other = true

fits_to : (s : Shape) (r : Row) (i : Inst) → agrees s r ≡ true → is_plain s ≡ true → Fits r i → HasFields s r i
fits_to Registers (RType opcode funct3 funct7) i a p h = (h.0, h.1, h.2, h.3)
fits_to AddImmediate (IType opcode funct3) i a p h = (h.0, h.1, h.3.0, h.4)
fits_to Immediate (IType opcode funct3) i a p h = (h.0, h.1, h.3.0, h.4)
fits_to Immediate (Shift opcode funct3 funct6) i a p h = (h.0, h.1, h.3.0, h.4)
fits_to Immediate (ShiftW opcode funct3 funct7) i a p h = (h.0, h.1, h.3.0, h.4)
fits_to Load (IType opcode funct3) i a p h = (h.0, h.1, h.3.0, h.4)
fits_to Store (SType opcode funct3) i a p h = (h.3.0, h.1, h.2, h.4)
fits_to Branch (BType opcode funct3) i a p h = (h.3.0, h.1, h.2, h.4)
fits_to Upper (UType opcode) i a p h = (h.0, h.3.0, h.3.1, h.4)
fits_to JumpRegister (IType opcode funct3) i a p h = (h.0, h.1, h.3.0, h.4)
fits_to Jump r i a p h = absurd (cc)
fits_to Nothing r i a p h = absurd (cc)
fits_to s r i a p h = absurd (cc)

-- a jump with a number stands in no text
pub no_jump : (op : Op) → is_in_text op ≡ true → is_jump (shape op) ≡ false
no_jump op h = from_test (is_in_text op) (is_jump (shape op)) h
    (each (λ o. not (is_in_text o && is_jump (shape o))) (below_holds 65 (λ n. not (is_in_text (op_at n) && is_jump (shape (op_at n)))) refl) op)
  where
    from_test : (a b : Bool) → a ≡ true → not (a && b) ≡ true → b ≡ false
    from_test a b h k = grind (arith, nat_tests)

plain_from : (s : Shape) (i : Inst) → is_jump s ≡ false → IsGiven (operands_by s i) → is_plain s ≡ true
plain_from Jump i h g = absurd (cc)
plain_from Nothing i h g = absurd (g)
plain_from s i h g = refl

pub fields_of : (op : Op) (i : Inst) → IsRead i → i.op ≡ op → IsGiven (operands_by (shape op) i) → HasFields (shape op) (row op) i
fields_of op i read e g =
    let given : IsGiven (operands_by (shape i.op) i) = subst (λ o. IsGiven (operands_by (shape o) i)) (sym e) g in
    subst (λ o. HasFields (shape o) (row o) i) e
    (fits_to (shape i.op) (row i.op) i (all_agree i.op) (plain_from (shape i.op) i (no_jump i.op read.in_text) given)
    (read.inst.rd, read.inst.rs1, read.inst.rs2, read.inst.row, read.ranged))

pub read_of : (op : Op) (i : Inst) → is_in_text op ≡ true → i.op ≡ op → HasFields (shape op) (row op) i → IsRead i
read_of op i text e h =
    let fits = fits_from (shape i.op) (row i.op) i (all_agree i.op) (subst (λ o. HasFields (shape o) (row o) i) (sym e) h) in
    record {
      inst = record { rd = fits.0; rs1 = fits.1; rs2 = fits.2; row = fits.3 };
      in_text = ap is_in_text e ∙ text;
      ranged = fits.4;
    }

-- Operands tell the instruction.

small_ends : (r : Row) → IsSmall (lowest r) × IsSmall (highest r)
small_ends (IType opcode funct3) = ((omega (arith, ints), omega (arith, ints)), (omega (arith, ints), omega (arith, ints)))
small_ends (SType opcode funct3) = ((omega (arith, ints), omega (arith, ints)), (omega (arith, ints), omega (arith, ints)))
small_ends r = ((omega (arith, ints), omega (arith, ints)), (omega (arith, ints), omega (arith, ints)))

pub ranged_small : (r : Row) (z : ℤ) → IsBetween (lowest r) (highest r) z → IsSmall z
ranged_small r z h = let ends = small_ends r in small_between (lowest r) (highest r) z ends.0 ends.1 h

pub ranged_once : (r : Row) (y z : ℤ) → IsBetween (lowest r) (highest r) y → IsBetween (lowest r) (highest r) z → signed_decimal y ≡ signed_decimal z → y ≡ z
ranged_once r y z hy hz e =
    number_once y z (ranged_small r y hy) (ranged_small r z hz) e

pub same_inst : (i j : Inst) → i.op ≡ j.op → i.rd ≡ j.rd → i.rs1 ≡ j.rs1 → i.rs2 ≡ j.rs2 → i.imm ≡ j.imm → i ≡ j
same_inst i j a b c d e =
    ap (λ op. record { op = op; rd = i.rd; rs1 = i.rs1; rs2 = i.rs2; imm = i.imm }) a
    ∙ ap (λ rd. record { op = j.op; rd = rd; rs1 = i.rs1; rs2 = i.rs2; imm = i.imm }) b
    ∙ ap (λ rs1. record { op = j.op; rd = j.rd; rs1 = rs1; rs2 = i.rs2; imm = i.imm }) c
    ∙ ap (λ rs2. record { op = j.op; rd = j.rd; rs1 = j.rs1; rs2 = rs2; imm = i.imm }) d
    ∙ ap (λ imm. record { op = j.op; rd = j.rd; rs1 = j.rs1; rs2 = j.rs2; imm = imm }) e

pub fields_once : (s : Shape) (r : Row) (i j : Inst) → i.op ≡ j.op → HasFields s r i → HasFields s r j →
    operands (operands_by s i) ≡ operands (operands_by s j) → i ≡ j
fields_once Registers r i j o h k e =
    let two = second_once _ i.rd i.rs1 j.rd j.rs1 _ _ h.0 h.1 k.0 k.1 refl e in
    same_inst i j o two.0 two.1 (register_once i.rs2 j.rs2 h.2 k.2 two.2) (h.3 ∙ sym k.3)
fields_once AddImmediate r i j o h k e =
    let two = second_once _ i.rd i.rs1 j.rd j.rs1 _ _ h.0 h.1 k.0 k.1 refl e in
    same_inst i j o two.0 two.1 (h.2 ∙ sym k.2) (ranged_once r i.imm j.imm h.3 k.3 two.2)
fields_once Immediate r i j o h k e =
    let two = second_once _ i.rd i.rs1 j.rd j.rs1 _ _ h.0 h.1 k.0 k.1 refl e in
    same_inst i j o two.0 two.1 (h.2 ∙ sym k.2) (ranged_once r i.imm j.imm h.3 k.3 two.2)
fields_once Load r i j o h k e =
    let all = address_once _ i.rd j.rd i.rs1 j.rs1 _ _ h.0 k.0 h.1 k.1 refl e in
    same_inst i j o all.0 all.2 (h.2 ∙ sym k.2) (ranged_once r i.imm j.imm h.3 k.3 all.1)
fields_once JumpRegister r i j o h k e =
    let all = address_once _ i.rd j.rd i.rs1 j.rs1 _ _ h.0 k.0 h.1 k.1 refl e in
    same_inst i j o all.0 all.2 (h.2 ∙ sym k.2) (ranged_once r i.imm j.imm h.3 k.3 all.1)
fields_once Store r i j o h k e =
    let all = address_once _ i.rs2 j.rs2 i.rs1 j.rs1 _ _ h.2 k.2 h.1 k.1 refl e in
    same_inst i j o (h.0 ∙ sym k.0) all.2 all.0 (ranged_once r i.imm j.imm h.3 k.3 all.1)
fields_once Branch r i j o h k e =
    let two = second_once _ i.rs1 i.rs2 j.rs1 j.rs2 _ _ h.1 h.2 k.1 k.2 refl e in
    same_inst i j o (h.0 ∙ sym k.0) two.0 two.1 (ranged_once r i.imm j.imm h.3 k.3 two.2)
fields_once Upper r i j o h k e =
    let one = first_once _ i.rd j.rd _ _ h.0 k.0 refl e in
    same_inst i j o one.0 (h.1 ∙ sym k.1) (h.2 ∙ sym k.2) (ranged_once r i.imm j.imm h.3 k.3 one.1)
fields_once Jump r i j o h k e = absurd (h)
fields_once Nothing r i j o h k e = absurd (h)

-- a range of two ends that are the same
pub between_same : (low high l h z : ℤ) → low ≡ l → high ≡ h → IsBetween l h z → IsBetween low high z
between_same low high l h z is_low is_high b = (subst (λ x. x ≤ℤ z) (sym is_low) b.0, subst (λ x. z ≤ℤ x) (sym is_high) b.1)

-- what an `addi` adds
add_ends : (r : Row) → agrees AddImmediate r ≡ true → (negsuc 2047 ≡ lowest r) × (pos 2047 ≡ highest r)
add_ends (IType opcode funct3) a = (refl, refl)
add_ends r a = absurd (cc)

pub add_signed : (i : Inst) → IsRead i → shape i.op ≡ AddImmediate → IsBetween (negsuc 2047) (pos 2047) i.imm
add_signed i read e =
    let ends = add_ends (row i.op) (subst (λ s. agrees s (row i.op) ≡ true) e (all_agree i.op)) in
    between_same _ _ _ _ i.imm ends.0 ends.1 read.ranged
