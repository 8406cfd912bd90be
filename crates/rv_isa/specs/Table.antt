-- The table of the instructions of RV64IM (chapter "RV32/64G Instruction Set Listings", and RISC-V Assembly Programmer's
-- Manual), with one line for each.
use Rattle.std.specs.Prelude.{◌==◌, ℕ, List, [], ◌∷◌, codes, if◌then◌else◌}
use Rattle.rv_isa.specs.declared.op.Op.{Op}
use Rattle.rv_isa.specs.declared.op.Op.TheVariants.{Add, Sub, Sll, Slt, Sltu, Xor, Srl, Sra, Or, And, Mul, Mulh, Mulhsu, Mulhu, Div, Divu, Rem, Remu, Addw, Subw, Sllw, Srlw, Sraw, Mulw, Divw, Divuw, Remw, Remuw, Addi, Slti, Sltiu, Xori, Ori, Andi, Slli, Srli, Srai, Addiw, Slliw, Srliw, Sraiw, Lb, Lh, Lw, Ld, Lbu, Lhu, Lwu, Sb, Sh, Sw, Sd, Beq, Bne, Blt, Bge, Bltu, Bgeu, Lui, Auipc, Jal, Jalr, Fence, Ecall, Ebreak}
use Rattle.rv_isa.specs.declared.row.Row.{Row}
use Rattle.rv_isa.specs.declared.row.Row.TheVariants.{RType, IType, Shift, ShiftW, SType, BType, UType, JType, Whole}
use Rattle.rv_isa.specs.declared.shape.Shape.{Shape}
use Rattle.rv_isa.specs.declared.shape.Shape.TheVariants.{Registers, AddImmediate, Immediate, Load, Store, Branch, Upper, Jump, JumpRegister, Nothing}

-- an instruction's mnemonic, the operands that it is written with, and what is fixed in its words
pub data Entry : Type 0 where
  entry : List ℕ → Shape → Row → Entry

abbrev pub table : Op → Entry
table Add = entry (codes "add") Registers (RType 0x33 0 0)
table Sub = entry (codes "sub") Registers (RType 0x33 0 0x20)
table Sll = entry (codes "sll") Registers (RType 0x33 1 0)
table Slt = entry (codes "slt") Registers (RType 0x33 2 0)
table Sltu = entry (codes "sltu") Registers (RType 0x33 3 0)
table Xor = entry (codes "xor") Registers (RType 0x33 4 0)
table Srl = entry (codes "srl") Registers (RType 0x33 5 0)
table Sra = entry (codes "sra") Registers (RType 0x33 5 0x20)
table Or = entry (codes "or") Registers (RType 0x33 6 0)
table And = entry (codes "and") Registers (RType 0x33 7 0)
table Mul = entry (codes "mul") Registers (RType 0x33 0 1)
table Mulh = entry (codes "mulh") Registers (RType 0x33 1 1)
table Mulhsu = entry (codes "mulhsu") Registers (RType 0x33 2 1)
table Mulhu = entry (codes "mulhu") Registers (RType 0x33 3 1)
table Div = entry (codes "div") Registers (RType 0x33 4 1)
table Divu = entry (codes "divu") Registers (RType 0x33 5 1)
table Rem = entry (codes "rem") Registers (RType 0x33 6 1)
table Remu = entry (codes "remu") Registers (RType 0x33 7 1)
table Addw = entry (codes "addw") Registers (RType 0x3b 0 0)
table Subw = entry (codes "subw") Registers (RType 0x3b 0 0x20)
table Sllw = entry (codes "sllw") Registers (RType 0x3b 1 0)
table Srlw = entry (codes "srlw") Registers (RType 0x3b 5 0)
table Sraw = entry (codes "sraw") Registers (RType 0x3b 5 0x20)
table Mulw = entry (codes "mulw") Registers (RType 0x3b 0 1)
table Divw = entry (codes "divw") Registers (RType 0x3b 4 1)
table Divuw = entry (codes "divuw") Registers (RType 0x3b 5 1)
table Remw = entry (codes "remw") Registers (RType 0x3b 6 1)
table Remuw = entry (codes "remuw") Registers (RType 0x3b 7 1)
table Addi = entry (codes "addi") AddImmediate (IType 0x13 0)
table Slti = entry (codes "slti") Immediate (IType 0x13 2)
table Sltiu = entry (codes "sltiu") Immediate (IType 0x13 3)
table Xori = entry (codes "xori") Immediate (IType 0x13 4)
table Ori = entry (codes "ori") Immediate (IType 0x13 6)
table Andi = entry (codes "andi") Immediate (IType 0x13 7)
table Slli = entry (codes "slli") Immediate (Shift 0x13 1 0)
table Srli = entry (codes "srli") Immediate (Shift 0x13 5 0)
table Srai = entry (codes "srai") Immediate (Shift 0x13 5 0x10)
table Addiw = entry (codes "addiw") Immediate (IType 0x1b 0)
table Slliw = entry (codes "slliw") Immediate (ShiftW 0x1b 1 0)
table Srliw = entry (codes "srliw") Immediate (ShiftW 0x1b 5 0)
table Sraiw = entry (codes "sraiw") Immediate (ShiftW 0x1b 5 0x20)
table Lb = entry (codes "lb") Load (IType 0x03 0)
table Lh = entry (codes "lh") Load (IType 0x03 1)
table Lw = entry (codes "lw") Load (IType 0x03 2)
table Ld = entry (codes "ld") Load (IType 0x03 3)
table Lbu = entry (codes "lbu") Load (IType 0x03 4)
table Lhu = entry (codes "lhu") Load (IType 0x03 5)
table Lwu = entry (codes "lwu") Load (IType 0x03 6)
table Sb = entry (codes "sb") Store (SType 0x23 0)
table Sh = entry (codes "sh") Store (SType 0x23 1)
table Sw = entry (codes "sw") Store (SType 0x23 2)
table Sd = entry (codes "sd") Store (SType 0x23 3)
table Beq = entry (codes "beq") Branch (BType 0x63 0)
table Bne = entry (codes "bne") Branch (BType 0x63 1)
table Blt = entry (codes "blt") Branch (BType 0x63 4)
table Bge = entry (codes "bge") Branch (BType 0x63 5)
table Bltu = entry (codes "bltu") Branch (BType 0x63 6)
table Bgeu = entry (codes "bgeu") Branch (BType 0x63 7)
table Lui = entry (codes "lui") Upper (UType 0x37)
table Auipc = entry (codes "auipc") Upper (UType 0x17)
table Jal = entry (codes "jal") Jump (JType 0x6f)
table Jalr = entry (codes "jalr") JumpRegister (IType 0x67 0)
table Fence = entry (codes "fence") Nothing (IType 0x0f 0)
table Ecall = entry (codes "ecall") Nothing (Whole 0x73)
table Ebreak = entry (codes "ebreak") Nothing (Whole 0x100073)

abbrev pub mnemonic_in : Entry → List ℕ
mnemonic_in (entry word operands fixed) = word

abbrev pub shape_in : Entry → Shape
shape_in (entry word operands fixed) = operands

abbrev pub row_in : Entry → Row
row_in (entry word operands fixed) = fixed

abbrev pub mnemonic : Op → List ℕ
mnemonic op = mnemonic_in (table op)

abbrev pub shape : Op → Shape
shape op = shape_in (table op)

abbrev pub row : Op → Row
row op = row_in (table op)

-- the instructions of each opcode
abbrev pub instructions_of : ℕ → List Op
instructions_of opcode =
    if opcode == 0x33 then Add ∷ Sub ∷ Sll ∷ Slt ∷ Sltu ∷ Xor ∷ Srl ∷ Sra ∷ Or ∷ And ∷ Mul ∷ Mulh ∷ Mulhsu ∷ Mulhu ∷ Div ∷ Divu ∷ Rem ∷ Remu ∷ []
    else if opcode == 0x3b then Addw ∷ Subw ∷ Sllw ∷ Srlw ∷ Sraw ∷ Mulw ∷ Divw ∷ Divuw ∷ Remw ∷ Remuw ∷ []
    else if opcode == 0x13 then Addi ∷ Slti ∷ Sltiu ∷ Xori ∷ Ori ∷ Andi ∷ Slli ∷ Srli ∷ Srai ∷ []
    else if opcode == 0x1b then Addiw ∷ Slliw ∷ Srliw ∷ Sraiw ∷ []
    else if opcode == 0x03 then Lb ∷ Lh ∷ Lw ∷ Ld ∷ Lbu ∷ Lhu ∷ Lwu ∷ []
    else if opcode == 0x23 then Sb ∷ Sh ∷ Sw ∷ Sd ∷ []
    else if opcode == 0x63 then Beq ∷ Bne ∷ Blt ∷ Bge ∷ Bltu ∷ Bgeu ∷ []
    else if opcode == 0x37 then Lui ∷ []
    else if opcode == 0x17 then Auipc ∷ []
    else if opcode == 0x6f then Jal ∷ []
    else if opcode == 0x67 then Jalr ∷ []
    else if opcode == 0x0f then Fence ∷ []
    else if opcode == 0x73 then Ecall ∷ Ebreak ∷ []
    else []
