-- The instructions whose lines are read.
use Rattle.std.specs.Prelude.{◌≡◌, ◌<◌, ◌≤ℤ◌, ℕ, ℤ, pos, negsuc, Bool, true, false, List, []}
use Rattle.rv_isa.specs.Encoding.{IsInst}
use Rattle.rv_isa.specs.Table.{row}
use Rattle.rv_isa.specs.Text as text
use Rattle.rv_isa.specs.declared.inst.Inst.{Inst}
use Rattle.rv_isa.specs.declared.op.Op.{Op}
use Rattle.rv_isa.specs.declared.op.Op.TheVariants.{Auipc, Jal, Fence, Ebreak}
use Rattle.rv_isa.specs.declared.row.Row.{Row}
use Rattle.rv_isa.specs.declared.row.Row.TheVariants.{IType, Shift, ShiftW, SType, BType, UType}
use Rattle.rv_isa.specs.declared.shape.Shape.{Shape}
use Rattle.rv_isa.specs.declared.shape.Shape.TheVariants.{Registers, AddImmediate, Immediate, Load, Store, Branch, Upper, Jump, JumpRegister, Nothing}
use Rattle.asm_inst.specs.Forms.{IsGiven, line_operands, line_word}

-- `auipc`, `fence` and `ebreak` stand in no text, and a jump goes to a label
abbrev pub is_in_text : Op → Bool
is_in_text Auipc = false
is_in_text Jal = false
is_in_text Fence = false
is_in_text Ebreak = false
is_in_text other = true

-- The numbers from the lowest to the highest one that may stand as an immediate. A branch by a number goes over the
-- next instruction.
abbrev pub lowest : Row → ℤ
lowest (IType opcode funct3) = negsuc 2047
lowest (SType opcode funct3) = negsuc 2047
lowest (BType opcode funct3) = pos 8
lowest other = pos 0

abbrev pub highest : Row → ℤ
highest (IType opcode funct3) = pos 2047
highest (Shift opcode funct3 funct6) = pos 63
highest (ShiftW opcode funct3 funct7) = pos 31
highest (SType opcode funct3) = pos 2047
highest (BType opcode funct3) = pos 8
highest (UType opcode) = pos 1048575
highest other = pos 0

abbrev pub IsBetween : ℤ → ℤ → ℤ → Type 0
IsBetween low high imm = (low ≤ℤ imm) × (imm ≤ℤ high)

-- the instructions that are read
pub record IsRead (i : Inst) : Type 0 where
  pub inst : IsInst i
  pub in_text : is_in_text i.op ≡ true
  pub ranged : IsBetween (lowest (row i.op)) (highest (row i.op)) i.imm

-- the fields of an instruction with such operands
abbrev pub HasFields : Shape → Row → Inst → Type 0
HasFields Registers r i = (i.rd < 32) × (i.rs1 < 32) × (i.rs2 < 32) × (i.imm ≡ pos 0)
HasFields AddImmediate r i = (i.rd < 32) × (i.rs1 < 32) × (i.rs2 ≡ 0) × IsBetween (lowest r) (highest r) i.imm
HasFields Immediate r i = (i.rd < 32) × (i.rs1 < 32) × (i.rs2 ≡ 0) × IsBetween (lowest r) (highest r) i.imm
HasFields Load r i = (i.rd < 32) × (i.rs1 < 32) × (i.rs2 ≡ 0) × IsBetween (lowest r) (highest r) i.imm
HasFields Store r i = (i.rd ≡ 0) × (i.rs1 < 32) × (i.rs2 < 32) × IsBetween (lowest r) (highest r) i.imm
HasFields Branch r i = (i.rd ≡ 0) × (i.rs1 < 32) × (i.rs2 < 32) × IsBetween (lowest r) (highest r) i.imm
HasFields Upper r i = (i.rd < 32) × (i.rs1 ≡ 0) × (i.rs2 ≡ 0) × IsBetween (lowest r) (highest r) i.imm
HasFields Jump r i = ⊥
HasFields JumpRegister r i = (i.rd < 32) × (i.rs1 < 32) × (i.rs2 ≡ 0) × IsBetween (lowest r) (highest r) i.imm
HasFields Nothing r i = ⊥

-- an instruction whose line has this word and no operands
abbrev pub IsAlone : List ℕ → Inst → Type 0
IsAlone word i = IsRead i × (line_operands i ≡ []) × (word ≡ line_word i)

-- an instruction whose line has this word and these operands
abbrev pub IsWith : List ℕ → List ℕ → Inst → Type 0
IsWith word operands i = IsRead i × IsGiven (line_operands i) × (word ≡ line_word i) × (operands ≡ text.operands (line_operands i))
