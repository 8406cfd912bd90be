-- The form in which the line of an instruction stands, and the parts of that line.
use Rattle.std.specs.Prelude.{◌&&◌, ◌==◌, ℕ, Bool, true, false, List, [], ◌∷◌, codes, if◌then◌else◌}
use Rattle.std.specs.Fmt.{signed_decimal}
use Rattle.rv_isa.specs.Table.{mnemonic, shape}
use Rattle.rv_isa.specs.Text.{based, is_zero, register}
use Rattle.rv_isa.specs.declared.inst.Inst.{Inst}
use Rattle.rv_isa.specs.declared.shape.Shape.{Shape}
use Rattle.rv_isa.specs.declared.shape.Shape.TheVariants.{Registers, AddImmediate, Immediate, Load, Store, Branch, Upper, Jump, JumpRegister, Nothing}

-- its own mnemonic with all operands, or a short form
pub data Form : Type 0 where
  in_full : Form
  as_li : Form
  as_mv : Form
  as_j : Form
  as_ret : Form

abbrev pub form_by : Shape → Inst → Form
form_by AddImmediate i = if i.rs1 == 0 then as_li else if is_zero i.imm then as_mv else in_full
form_by Jump i = if i.rd == 0 then as_j else in_full
form_by JumpRegister i = if i.rd == 0 && i.rs1 == 1 && is_zero i.imm then as_ret else in_full
form_by other i = in_full

abbrev pub form : Inst → Form
form i = form_by (shape i.op) i

abbrev pub in_full_form : Form → Bool
in_full_form in_full = true
in_full_form other = false

-- whether it stands in full
abbrev pub stands_in_full : Inst → Bool
stands_in_full i = in_full_form (form i)

-- the word of a line, where `own` is the instruction's mnemonic
abbrev pub word_in : Form → List ℕ → List ℕ
word_in in_full own = own
word_in as_li own = codes "li"
word_in as_mv own = codes "mv"
word_in as_j own = codes "j"
word_in as_ret own = codes "ret"

-- its operands, where it stands in full
abbrev pub operands_by : Shape → Inst → List (List ℕ)
operands_by Registers i = register i.rd ∷ register i.rs1 ∷ register i.rs2 ∷ []
operands_by AddImmediate i = register i.rd ∷ register i.rs1 ∷ signed_decimal i.imm ∷ []
operands_by Immediate i = register i.rd ∷ register i.rs1 ∷ signed_decimal i.imm ∷ []
operands_by Load i = register i.rd ∷ based i.imm i.rs1 ∷ []
operands_by Store i = register i.rs2 ∷ based i.imm i.rs1 ∷ []
operands_by Branch i = register i.rs1 ∷ register i.rs2 ∷ signed_decimal i.imm ∷ []
operands_by Upper i = register i.rd ∷ signed_decimal i.imm ∷ []
operands_by Jump i = register i.rd ∷ signed_decimal i.imm ∷ []
operands_by JumpRegister i = register i.rd ∷ based i.imm i.rs1 ∷ []
operands_by Nothing i = []

abbrev pub operands_in : Form → Shape → Inst → List (List ℕ)
operands_in in_full s i = operands_by s i
operands_in as_li s i = register i.rd ∷ signed_decimal i.imm ∷ []
operands_in as_mv s i = register i.rd ∷ register i.rs1 ∷ []
operands_in as_j s i = signed_decimal i.imm ∷ []
operands_in as_ret s i = []

-- the word and the operands of an instruction's line
abbrev pub line_word : Inst → List ℕ
line_word i = word_in (form i) (mnemonic i.op)

abbrev pub line_operands : Inst → List (List ℕ)
line_operands i = operands_in (form i) (shape i.op) i

-- there is an operand
abbrev pub IsGiven : List (List ℕ) → Type 0
IsGiven [] = ⊥
IsGiven (first ∷ more) = Unit {0}
