-- For each format: its words have 32 bits and what its row fixes, and give the fields back; and a
-- word that has what a row fixes is the word of its own fields.
use Rattle.std.proofs.Common.{◌≡◌, ◌%◌, ◌^◌, ◌<◌, ℕ, ℤ, pos, true, arith}
use Rattle.std.proofs.lemmas.Int.{ints}
use Rattle.std.proofs.lemmas.Bool.Decides.{nat_tests}
use Rattle.rv_isa.specs.Format.{opcode_of, funct3_of, funct6_of, funct7_of, i_bits, s_bits, b_bits, j_bits, low_bits, sign_extended}
use Rattle.rv_isa.specs.Encoding.{IsRow, FitsRow, IsSigned12, IsBranchDistance, IsJumpDistance, IsUnsigned20, IsAmount5, IsAmount6, word_in, has_row, rd_in, rs1_in, rs2_in, imm_in}
use Rattle.rv_isa.specs.declared.inst.Inst.{Inst}
use Rattle.rv_isa.specs.declared.row.Row.{Row}
use Rattle.rv_isa.specs.declared.row.Row.TheVariants.{RType, IType, Shift, ShiftW, SType, BType, UType, JType, Whole}

-- two's complement of each width: the bits fit, and give the number back

pub low_bits-12 : (imm : ℤ) → IsSigned12 imm → (low_bits 12 imm < 0x1000) × (sign_extended 12 (low_bits 12 imm) ≡ imm)
low_bits-12 imm h = grind (arith, ints, nat_tests)

pub low_bits-13 : (imm : ℤ) → IsBranchDistance imm → (low_bits 13 imm < 0x2000) × (sign_extended 13 (low_bits 13 imm) ≡ imm)
low_bits-13 imm h = grind (arith, ints, nat_tests)

pub low_bits-21 : (imm : ℤ) → IsJumpDistance imm → (low_bits 21 imm < 0x200000) × (sign_extended 21 (low_bits 21 imm) ≡ imm)
low_bits-21 imm h = grind (arith, ints, nat_tests)

pub low_bits-20 : (imm : ℤ) → IsUnsigned20 imm → (low_bits 20 imm < 0x100000) × (pos (low_bits 20 imm) ≡ imm)
low_bits-20 imm h = grind (arith, ints, nat_tests)

pub low_bits-6 : (imm : ℤ) → IsAmount6 imm → (low_bits 6 imm < 0x40) × (pos (low_bits 6 imm) ≡ imm)
low_bits-6 imm h = grind (arith, ints, nat_tests)

pub low_bits-5 : (imm : ℤ) → IsAmount5 imm → (low_bits 5 imm < 0x20) × (pos (low_bits 5 imm) ≡ imm)
low_bits-5 imm h = grind (arith, ints, nat_tests)

pub extended-12 : (bits : ℕ) → bits < 0x1000 → IsSigned12 (sign_extended 12 bits) × (low_bits 12 (sign_extended 12 bits) ≡ bits)
extended-12 bits h = grind (arith, ints, nat_tests)

pub extended-13 : (bits : ℕ) → bits < 0x2000 → bits % 2 ≡ 0 → IsBranchDistance (sign_extended 13 bits) × (low_bits 13 (sign_extended 13 bits) ≡ bits)
extended-13 bits h even = grind (arith, ints, nat_tests)

pub extended-21 : (bits : ℕ) → bits < 0x200000 → bits % 2 ≡ 0 → IsJumpDistance (sign_extended 21 bits) × (low_bits 21 (sign_extended 21 bits) ≡ bits)
extended-21 bits h even = grind (arith, ints, nat_tests)

-- the registers of an instruction
pub record IsInRegisters (i : Inst) : Type 0 where
  pub rd : i.rd < 32
  pub rs1 : i.rs1 < 32
  pub rs2 : i.rs2 < 32

-- a word has the fields of an instruction, and what the row fixes
pub record GivesBack (r : Row) (i : Inst) (word : ℕ) : Type 0 where
  pub fits : word < 2 ^ 32
  pub fixed : has_row r (opcode_of word) (funct3_of word) (funct6_of word) (funct7_of word) word ≡ true
  pub rd : rd_in r word ≡ i.rd
  pub rs1 : rs1_in r word ≡ i.rs1
  pub rs2 : rs2_in r word ≡ i.rs2
  pub imm : imm_in r word ≡ i.imm

pub gives_back : (r : Row) (i : Inst) → IsRow r → IsInRegisters i → FitsRow r i → GivesBack r i (word_in r i)
gives_back (RType opcode funct3 funct7) i ok held h = grind (arith, ints, nat_tests)
gives_back (IType opcode funct3) i ok held h = let low = low_bits-12 i.imm h.1 in grind (arith, ints, nat_tests)
gives_back (Shift opcode funct3 funct6) i ok held h = let low = low_bits-6 i.imm h.1 in grind (arith, ints, nat_tests)
gives_back (ShiftW opcode funct3 funct7) i ok held h = let low = low_bits-5 i.imm h.1 in grind (arith, ints, nat_tests)
gives_back (SType opcode funct3) i ok held h = let low = low_bits-12 i.imm h.1 in grind (arith, ints, nat_tests)
gives_back (BType opcode funct3) i ok held h = let low = low_bits-13 i.imm h.1 in grind (arith, ints, nat_tests)
gives_back (UType opcode) i ok held h = let low = low_bits-20 i.imm h.2 in grind (arith, ints, nat_tests)
gives_back (JType opcode) i ok held h = let low = low_bits-21 i.imm h.2 in grind (arith, ints, nat_tests)
gives_back (Whole word) i ok held h = grind (arith, ints, nat_tests)

-- the fields that a word gives to an instruction of this row, and their word
pub record IsWordOf (r : Row) (word : ℕ) (i : Inst) : Type 0 where
  pub held : IsInRegisters i
  pub fits : FitsRow r i
  pub same : word_in r i ≡ word

pub is_word_of : (r : Row) (i : Inst) (word : ℕ) → word < 2 ^ 32
    → has_row r (opcode_of word) (funct3_of word) (funct6_of word) (funct7_of word) word ≡ true
    → rd_in r word ≡ i.rd → rs1_in r word ≡ i.rs1 → rs2_in r word ≡ i.rs2 → imm_in r word ≡ i.imm
    → IsWordOf r word i
is_word_of (RType opcode funct3 funct7) i word fits fixed rd rs1 rs2 imm = grind (arith, ints, nat_tests)
is_word_of (IType opcode funct3) i word fits fixed rd rs1 rs2 imm =
    let low = extended-12 (i_bits word) (omega arith) in grind (arith, ints, nat_tests)
is_word_of (Shift opcode funct3 funct6) i word fits fixed rd rs1 rs2 imm = grind (arith, ints, nat_tests)
is_word_of (ShiftW opcode funct3 funct7) i word fits fixed rd rs1 rs2 imm = grind (arith, ints, nat_tests)
is_word_of (SType opcode funct3) i word fits fixed rd rs1 rs2 imm =
    let low = extended-12 (s_bits word) (omega arith) in grind (arith, ints, nat_tests)
is_word_of (BType opcode funct3) i word fits fixed rd rs1 rs2 imm =
    let low = extended-13 (b_bits word) (omega arith) (omega arith) in grind (arith, ints, nat_tests)
is_word_of (UType opcode) i word fits fixed rd rs1 rs2 imm = grind (arith, ints, nat_tests)
is_word_of (JType opcode) i word fits fixed rd rs1 rs2 imm =
    let low = extended-21 (j_bits word) (omega arith) (omega arith) in grind (arith, ints, nat_tests)
is_word_of (Whole w) i word fits fixed rd rs1 rs2 imm = grind (arith, ints, nat_tests)
