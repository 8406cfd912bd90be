-- An instruction with another immediate that its format holds is an instruction.
use Rattle.std.proofs.Common.{ℕ, ℤ, pos, ◌<◌, arith}
use Rattle.std.proofs.lemmas.Int.{ints}
use Rattle.rv_isa.specs.Encoding.{FitsRow, IsInst, IsSigned12}
use Rattle.rv_isa.specs.Table.{row}
use Rattle.rv_isa.specs.Relocation.{HoldsHigh, HoldsLow}
use Rattle.rv_isa.specs.declared.inst.Inst.{Inst}
use Rattle.rv_isa.specs.declared.row.Row.{Row}
use Rattle.rv_isa.specs.declared.row.Row.TheVariants.{RType, IType, Shift, ShiftW, SType, BType, UType, JType, Whole}

high_fits_row : (r : Row) (i : Inst) (n : ℕ) → HoldsHigh r → FitsRow r i → n < 0x100000 → FitsRow r (record i { imm = pos n })
high_fits_row (UType opcode) i n holds fits bound = (fits.0, fits.1, grind (arith, ints))
high_fits_row (RType opcode funct3 funct7) i n holds fits bound = absurd holds
high_fits_row (IType opcode funct3) i n holds fits bound = absurd holds
high_fits_row (Shift opcode funct3 funct6) i n holds fits bound = absurd holds
high_fits_row (ShiftW opcode funct3 funct7) i n holds fits bound = absurd holds
high_fits_row (SType opcode funct3) i n holds fits bound = absurd holds
high_fits_row (BType opcode funct3) i n holds fits bound = absurd holds
high_fits_row (JType opcode) i n holds fits bound = absurd holds
high_fits_row (Whole word) i n holds fits bound = absurd holds

low_fits_row : (r : Row) (i : Inst) (imm : ℤ) → HoldsLow r → FitsRow r i → IsSigned12 imm → FitsRow r (record i { imm = imm })
low_fits_row (IType opcode funct3) i imm holds fits signed = (fits.0, signed)
low_fits_row (RType opcode funct3 funct7) i imm holds fits signed = absurd holds
low_fits_row (Shift opcode funct3 funct6) i imm holds fits signed = absurd holds
low_fits_row (ShiftW opcode funct3 funct7) i imm holds fits signed = absurd holds
low_fits_row (SType opcode funct3) i imm holds fits signed = absurd holds
low_fits_row (BType opcode funct3) i imm holds fits signed = absurd holds
low_fits_row (UType opcode) i imm holds fits signed = absurd holds
low_fits_row (JType opcode) i imm holds fits signed = absurd holds
low_fits_row (Whole word) i imm holds fits signed = absurd holds

pub high_is_inst : (i : Inst) (n : ℕ) → IsInst i → HoldsHigh (row i.op) → n < 0x100000 → IsInst (record i { imm = pos n })
high_is_inst i n is holds bound =
    record { rd = is.rd; rs1 = is.rs1; rs2 = is.rs2; row = high_fits_row (row i.op) i n holds is.row bound }

pub low_is_inst : (i : Inst) (imm : ℤ) → IsInst i → HoldsLow (row i.op) → IsSigned12 imm → IsInst (record i { imm = imm })
low_is_inst i imm is holds signed =
    record { rd = is.rd; rs1 = is.rs1; rs2 = is.rs2; row = low_fits_row (row i.op) i imm holds is.row signed }
