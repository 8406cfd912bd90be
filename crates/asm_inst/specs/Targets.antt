-- The instructions in whose lines a label, or a part of a symbol's address, stands for the immediate.
use Rattle.std.specs.Prelude.{◌≡◌, ◌<◌, ◌==◌, ℕ, pos, Bool, not, Option, Some, None, is_some, true, List, [], ◌∷◌}
use Rattle.rv_isa.specs.Table.{mnemonic, row, shape}
use Rattle.rv_isa.specs.Text.{line_to, operands, operands_to, register, word_to}
use Rattle.rv_isa.specs.declared.inst.Inst.{Inst}
use Rattle.rv_isa.specs.declared.op.Op.{Op}
use Rattle.rv_isa.specs.declared.op.Op.TheVariants.{Lui}
use Rattle.rv_isa.specs.declared.row.Row.{Row}
use Rattle.rv_isa.specs.declared.row.Row.TheVariants.{IType}
use Rattle.rv_isa.specs.declared.shape.Shape.{Shape}
use Rattle.rv_isa.specs.declared.shape.Shape.TheVariants.{AddImmediate, Immediate, Load, Branch, Upper, Jump, JumpRegister}
use Rattle.asm_inst.specs.declared.target.Target.{Target}
use Rattle.asm_inst.specs.declared.target.Target.TheVariants.{Label, High, Low}

-- Branches and jumps go to labels. The lower part of an address stands in the I format, but not for the amount of a
-- shift.
abbrev pub target_by : Shape → Row → Option Target
target_by Branch r = Some Label
target_by Jump r = Some Label
target_by AddImmediate r = Some Low
target_by Immediate (IType opcode funct3) = Some Low
target_by Load r = Some Low
target_by JumpRegister r = Some Low
target_by s r = None

-- what may stand for the immediate, `lui` alone taking the upper part of an address
abbrev pub target : Op → Option Target
target Lui = Some High
target op = target_by (shape op) (row op)

-- the registers that such operands give, each other field 0
abbrev pub HasRegisters : Shape → Inst → Type 0
HasRegisters AddImmediate i = (i.rd < 32) × (i.rs1 < 32) × (i.rs2 ≡ 0)
HasRegisters Immediate i = (i.rd < 32) × (i.rs1 < 32) × (i.rs2 ≡ 0)
HasRegisters Load i = (i.rd < 32) × (i.rs1 < 32) × (i.rs2 ≡ 0)
HasRegisters Branch i = (i.rd ≡ 0) × (i.rs1 < 32) × (i.rs2 < 32)
HasRegisters Upper i = (i.rd < 32) × (i.rs1 ≡ 0) × (i.rs2 ≡ 0)
HasRegisters Jump i = (i.rd < 32) × (i.rs1 ≡ 0) × (i.rs2 ≡ 0)
HasRegisters JumpRegister i = (i.rd < 32) × (i.rs1 < 32) × (i.rs2 ≡ 0)
HasRegisters s i = ⊥

-- an instruction whose immediate is left open, and 0
pub record IsOpen (i : Inst) : Type 0 where
  pub registers : HasRegisters (shape i.op) i
  pub zero : i.imm ≡ pos 0
  pub takes : is_some (target i.op) ≡ true

-- whether it stands with its own mnemonic, and not as `li` or `j`
abbrev pub stands_open : Shape → Inst → Bool
stands_open AddImmediate i = not (i.rs1 == 0)
stands_open Jump i = not (i.rd == 0)
stands_open s i = true

-- its operands then
abbrev pub operands_open : Shape → Inst → List ℕ → List (List ℕ)
operands_open AddImmediate i last = register i.rd ∷ register i.rs1 ∷ last ∷ []
operands_open Jump i last = register i.rd ∷ last ∷ []
operands_open s i last = operands_to s i last

-- an instruction and a text in place of its immediate, whose line this is
abbrev pub IsLineOf : List ℕ → Inst → List ℕ → Type 0
IsLineOf line i last = IsOpen i × (line ≡ line_to i last)

-- whose line has this word and these operands
abbrev pub IsOpenWith : List ℕ → List ℕ → Inst → List ℕ → Type 0
IsOpenWith word ops i last =
    IsOpen i × (word ≡ word_to (shape i.op) (mnemonic i.op) i) × (ops ≡ operands (operands_to (shape i.op) i last))

-- which is a `li` of these operands
abbrev pub IsOpenLi : List ℕ → Inst → List ℕ → Type 0
IsOpenLi ops i last = IsOpen i × (shape i.op ≡ AddImmediate) × (i.rs1 ≡ 0) × (ops ≡ operands (register i.rd ∷ last ∷ []))

-- which has this mnemonic and these operands
abbrev pub IsOpenInFull : Op → List ℕ → Inst → List ℕ → Type 0
IsOpenInFull op ops i last =
    IsOpen i × (i.op ≡ op) × (stands_open (shape op) i ≡ true) × (ops ≡ operands (operands_open (shape op) i last))

-- which has these registers and these operands
abbrev pub HasOperands : Shape → Op → List ℕ → Inst → List ℕ → Type 0
HasOperands s op ops i last = (i.op ≡ op) × (i.imm ≡ pos 0) × HasRegisters s i × (ops ≡ operands (operands_open s i last))
