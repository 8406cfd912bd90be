-- Instructions by their mnemonics, the short forms `li`, `mv` and `ret` among them (RISC-V Assembly Programmer's Manual,
-- "Pseudoinstructions").
use Rattle.std.specs.Prelude.{ℕ, ℤ, pos}
use Rattle.rv_isa.specs.declared.inst.Inst.{Inst}
use Rattle.rv_isa.specs.declared.op.Op.TheVariants.{Addi, Lui, Jalr, Ecall}

-- `addi rd, rs1, imm`
abbrev pub addi : ℕ → ℕ → ℤ → Inst
addi rd rs1 imm = record { op = Addi; rd = rd; rs1 = rs1; rs2 = 0; imm = imm }

-- `lui rd, imm`
abbrev pub lui : ℕ → ℤ → Inst
lui rd imm = record { op = Lui; rd = rd; rs1 = 0; rs2 = 0; imm = imm }

-- `jalr rd, imm(rs1)`
abbrev pub jalr : ℕ → ℕ → ℤ → Inst
jalr rd rs1 imm = record { op = Jalr; rd = rd; rs1 = rs1; rs2 = 0; imm = imm }

abbrev pub ecall : Inst
ecall = record { op = Ecall; rd = 0; rs1 = 0; rs2 = 0; imm = pos 0 }

-- `li rd, imm`
abbrev pub li : ℕ → ℤ → Inst
li rd imm = addi rd 0 imm

-- `mv rd, rs`
abbrev pub mv : ℕ → ℕ → Inst
mv rd rs = addi rd rs (pos 0)

-- `ret`, which jumps to ra
abbrev pub ret : Inst
ret = jalr 0 1 (pos 0)

-- the word of `unimp`, which is that of no instruction
abbrev pub unimp_word : ℕ
unimp_word = 0xC0001073
