-- The words of the instructions: what a row of the table says of fields and words, and which word is which instruction.
use Rattle.std.specs.Prelude.{◌≡◌, ◌%◌, ◌<◌, ◌≤ℤ◌, ◌&&◌, ◌==◌, ℕ, ℤ, pos, negsuc, Bool, Option, option_map, find}
use Rattle.rv_isa.specs.Format.{opcode_of, rd_of, funct3_of, rs1_of, rs2_of, funct6_of, funct7_of, amount_of, i_bits, s_bits, b_bits, u_bits, j_bits, r_word, i_word, shift_word, s_word, b_word, u_word, j_word, low_bits, sign_extended}
use Rattle.rv_isa.specs.Table.{row, instructions_of}
use Rattle.rv_isa.specs.declared.inst.Inst.{Inst}
use Rattle.rv_isa.specs.declared.op.Op.{Op}
use Rattle.rv_isa.specs.declared.row.Row.{Row}
use Rattle.rv_isa.specs.declared.row.Row.TheVariants.{RType, IType, Shift, ShiftW, SType, BType, UType, JType, Whole}

-- a number that 12 bits hold in two's complement
abbrev pub IsSigned12 : ℤ → Type 0
IsSigned12 imm = (negsuc 2047 ≤ℤ imm) × (imm ≤ℤ pos 2047)

-- an even distance that 13 bits hold
abbrev pub IsBranchDistance : ℤ → Type 0
IsBranchDistance imm = (negsuc 4095 ≤ℤ imm) × (imm ≤ℤ pos 4095) × (low_bits 13 imm % 2 ≡ 0)

-- an even distance that 21 bits hold
abbrev pub IsJumpDistance : ℤ → Type 0
IsJumpDistance imm = (negsuc 1048575 ≤ℤ imm) × (imm ≤ℤ pos 1048575) × (low_bits 21 imm % 2 ≡ 0)

abbrev pub IsUnsigned20 : ℤ → Type 0
IsUnsigned20 imm = (pos 0 ≤ℤ imm) × (imm ≤ℤ pos 1048575)

-- the amount of a shift of 64 bits, and of 32 bits
abbrev pub IsAmount6 : ℤ → Type 0
IsAmount6 imm = (pos 0 ≤ℤ imm) × (imm ≤ℤ pos 63)

abbrev pub IsAmount5 : ℤ → Type 0
IsAmount5 imm = (pos 0 ≤ℤ imm) × (imm ≤ℤ pos 31)

-- what a row fixes fits its fields
abbrev pub IsRow : Row → Type 0
IsRow (RType opcode funct3 funct7) = (opcode < 0x80) × (funct3 < 8) × (funct7 < 0x80)
IsRow (IType opcode funct3) = (opcode < 0x80) × (funct3 < 8)
IsRow (Shift opcode funct3 funct6) = (opcode < 0x80) × (funct3 < 8) × (funct6 < 0x40)
IsRow (ShiftW opcode funct3 funct7) = (opcode < 0x80) × (funct3 < 8) × (funct7 < 0x80)
IsRow (SType opcode funct3) = (opcode < 0x80) × (funct3 < 8)
IsRow (BType opcode funct3) = (opcode < 0x80) × (funct3 < 8)
IsRow (UType opcode) = opcode < 0x80
IsRow (JType opcode) = opcode < 0x80
IsRow (Whole word) = word < 0x100000000

-- the fields that a format lacks are 0, and its immediate is one that it holds
abbrev pub FitsRow : Row → Inst → Type 0
FitsRow (RType opcode funct3 funct7) i = i.imm ≡ pos 0
FitsRow (IType opcode funct3) i = (i.rs2 ≡ 0) × IsSigned12 i.imm
FitsRow (Shift opcode funct3 funct6) i = (i.rs2 ≡ 0) × IsAmount6 i.imm
FitsRow (ShiftW opcode funct3 funct7) i = (i.rs2 ≡ 0) × IsAmount5 i.imm
FitsRow (SType opcode funct3) i = (i.rd ≡ 0) × IsSigned12 i.imm
FitsRow (BType opcode funct3) i = (i.rd ≡ 0) × IsBranchDistance i.imm
FitsRow (UType opcode) i = (i.rs1 ≡ 0) × (i.rs2 ≡ 0) × IsUnsigned20 i.imm
FitsRow (JType opcode) i = (i.rs1 ≡ 0) × (i.rs2 ≡ 0) × IsJumpDistance i.imm
FitsRow (Whole word) i = (i.rd ≡ 0) × (i.rs1 ≡ 0) × (i.rs2 ≡ 0) × (i.imm ≡ pos 0)

-- an instruction of the table
pub record IsInst (i : Inst) : Type 0 where
  pub rd : i.rd < 32
  pub rs1 : i.rs1 < 32
  pub rs2 : i.rs2 < 32
  pub row : FitsRow (row i.op) i

-- the word of these fields
abbrev pub word_in : Row → Inst → ℕ
word_in (RType opcode funct3 funct7) i = r_word opcode funct3 funct7 i.rd i.rs1 i.rs2
word_in (IType opcode funct3) i = i_word opcode funct3 i.rd i.rs1 (low_bits 12 i.imm)
word_in (Shift opcode funct3 funct6) i = shift_word opcode funct3 funct6 i.rd i.rs1 (low_bits 6 i.imm)
word_in (ShiftW opcode funct3 funct7) i = r_word opcode funct3 funct7 i.rd i.rs1 (low_bits 5 i.imm)
word_in (SType opcode funct3) i = s_word opcode funct3 i.rs1 i.rs2 (low_bits 12 i.imm)
word_in (BType opcode funct3) i = b_word opcode funct3 i.rs1 i.rs2 (low_bits 13 i.imm)
word_in (UType opcode) i = u_word opcode i.rd (low_bits 20 i.imm)
word_in (JType opcode) i = j_word opcode i.rd (low_bits 21 i.imm)
word_in (Whole word) i = word

-- the word of an instruction
abbrev pub encoded : Inst → ℕ
encoded i = word_in (row i.op) i

-- whether a word of these fields has what a row fixes
abbrev pub has_row : Row → ℕ → ℕ → ℕ → ℕ → ℕ → Bool
has_row (RType o f3 f7) opcode funct3 funct6 funct7 word = opcode == o && funct3 == f3 && funct7 == f7
has_row (IType o f3) opcode funct3 funct6 funct7 word = opcode == o && funct3 == f3
has_row (Shift o f3 f6) opcode funct3 funct6 funct7 word = opcode == o && funct3 == f3 && funct6 == f6
has_row (ShiftW o f3 f7) opcode funct3 funct6 funct7 word = opcode == o && funct3 == f3 && funct7 == f7
has_row (SType o f3) opcode funct3 funct6 funct7 word = opcode == o && funct3 == f3
has_row (BType o f3) opcode funct3 funct6 funct7 word = opcode == o && funct3 == f3
has_row (UType o) opcode funct3 funct6 funct7 word = opcode == o
has_row (JType o) opcode funct3 funct6 funct7 word = opcode == o
has_row (Whole w) opcode funct3 funct6 funct7 word = word == w

-- the instruction of the table that words of these fields have
abbrev pub op_at : ℕ → ℕ → ℕ → ℕ → ℕ → Option Op
op_at opcode funct3 funct6 funct7 word =
    find (λ op. has_row (row op) opcode funct3 funct6 funct7 word) (instructions_of opcode)

-- the instruction of a word with this opcode
abbrev pub op_under : ℕ → ℕ → Option Op
op_under opcode word = op_at opcode (funct3_of word) (funct6_of word) (funct7_of word) word

abbrev pub op_of : ℕ → Option Op
op_of word = op_under (opcode_of word) word

-- the fields of a word of a row's format, 0 where the format has none

abbrev pub rd_in : Row → ℕ → ℕ
rd_in (RType opcode funct3 funct7) word = rd_of word
rd_in (IType opcode funct3) word = rd_of word
rd_in (Shift opcode funct3 funct6) word = rd_of word
rd_in (ShiftW opcode funct3 funct7) word = rd_of word
rd_in (SType opcode funct3) word = 0
rd_in (BType opcode funct3) word = 0
rd_in (UType opcode) word = rd_of word
rd_in (JType opcode) word = rd_of word
rd_in (Whole w) word = 0

abbrev pub rs1_in : Row → ℕ → ℕ
rs1_in (RType opcode funct3 funct7) word = rs1_of word
rs1_in (IType opcode funct3) word = rs1_of word
rs1_in (Shift opcode funct3 funct6) word = rs1_of word
rs1_in (ShiftW opcode funct3 funct7) word = rs1_of word
rs1_in (SType opcode funct3) word = rs1_of word
rs1_in (BType opcode funct3) word = rs1_of word
rs1_in (UType opcode) word = 0
rs1_in (JType opcode) word = 0
rs1_in (Whole w) word = 0

abbrev pub rs2_in : Row → ℕ → ℕ
rs2_in (RType opcode funct3 funct7) word = rs2_of word
rs2_in (IType opcode funct3) word = 0
rs2_in (Shift opcode funct3 funct6) word = 0
rs2_in (ShiftW opcode funct3 funct7) word = 0
rs2_in (SType opcode funct3) word = rs2_of word
rs2_in (BType opcode funct3) word = rs2_of word
rs2_in (UType opcode) word = 0
rs2_in (JType opcode) word = 0
rs2_in (Whole w) word = 0

abbrev pub imm_in : Row → ℕ → ℤ
imm_in (RType opcode funct3 funct7) word = pos 0
imm_in (IType opcode funct3) word = sign_extended 12 (i_bits word)
imm_in (Shift opcode funct3 funct6) word = pos (amount_of word)
imm_in (ShiftW opcode funct3 funct7) word = pos (rs2_of word)
imm_in (SType opcode funct3) word = sign_extended 12 (s_bits word)
imm_in (BType opcode funct3) word = sign_extended 13 (b_bits word)
imm_in (UType opcode) word = pos (u_bits word)
imm_in (JType opcode) word = sign_extended 21 (j_bits word)
imm_in (Whole w) word = pos 0

-- an instruction with the fields that a word gives it, where this is its row
abbrev pub inst_by : Row → Op → ℕ → Inst
inst_by r op word =
    record {
      op = op;
      rd = rd_in r word;
      rs1 = rs1_in r word;
      rs2 = rs2_in r word;
      imm = imm_in r word;
    }

abbrev pub inst_in : Op → ℕ → Inst
inst_in op word = inst_by (row op) op word

-- the instruction of a word, where the table has one
abbrev pub decoded : ℕ → Option Inst
decoded word = option_map (λ op. inst_in op word) (op_of word)

-- the word is this instruction's
abbrev pub HasWord : Inst → ℕ → Type 0
HasWord i word = IsInst i × (encoded i ≡ word)
