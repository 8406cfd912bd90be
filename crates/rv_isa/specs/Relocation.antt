-- Lines of code that have a word: an instruction of the table, for the upper and the lower part of
-- an address one of a format that holds it, and `unimp`.
use Rattle.std.specs.Prelude.{List, [], ◌∷◌}
use Rattle.rv_isa.specs.Encoding.{IsInst}
use Rattle.rv_isa.specs.Table.{row}
use Rattle.rv_isa.specs.declared.inst.Line.{Line}
use Rattle.rv_isa.specs.declared.inst.Line.TheVariants.{Plain, High, Low, Unimp}
use Rattle.rv_isa.specs.declared.row.Row.{Row}
use Rattle.rv_isa.specs.declared.row.Row.TheVariants.{RType, IType, Shift, ShiftW, SType, BType, UType, JType, Whole}

-- the upper 20 bits stand in the U format
abbrev pub HoldsHigh : Row → Type 0
HoldsHigh (RType opcode funct3 funct7) = ⊥
HoldsHigh (IType opcode funct3) = ⊥
HoldsHigh (Shift opcode funct3 funct6) = ⊥
HoldsHigh (ShiftW opcode funct3 funct7) = ⊥
HoldsHigh (SType opcode funct3) = ⊥
HoldsHigh (BType opcode funct3) = ⊥
HoldsHigh (UType opcode) = Unit {0}
HoldsHigh (JType opcode) = ⊥
HoldsHigh (Whole word) = ⊥

-- the low 12 bits stand in the I format
abbrev pub HoldsLow : Row → Type 0
HoldsLow (RType opcode funct3 funct7) = ⊥
HoldsLow (IType opcode funct3) = Unit {0}
HoldsLow (Shift opcode funct3 funct6) = ⊥
HoldsLow (ShiftW opcode funct3 funct7) = ⊥
HoldsLow (SType opcode funct3) = ⊥
HoldsLow (BType opcode funct3) = ⊥
HoldsLow (UType opcode) = ⊥
HoldsLow (JType opcode) = ⊥
HoldsLow (Whole word) = ⊥

abbrev pub IsLine : Line → Type 0
IsLine (Plain i) = IsInst i
IsLine (High i symbol offset) = IsInst i × HoldsHigh (row i.op)
IsLine (Low i symbol offset) = IsInst i × HoldsLow (row i.op)
IsLine Unimp = Unit {0}

-- each of these lines has a word
abbrev pub AreLines : List Line → Type 0
AreLines [] = Unit {0}
AreLines (line ∷ lines) = IsLine line × AreLines lines
