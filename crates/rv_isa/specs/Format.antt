-- The six base instruction formats: where the fields of a 32-bit word lie (sections "Base Instruction
-- Formats" and "Immediate Encoding Variants"). Words, registers and the bits of immediates are numbers.
use Rattle.std.specs.Prelude.{◌+◌, ◌-◌, ◌*◌, ◌/◌, ◌%◌, ◌^◌, ◌-ℤ◌, ℕ, ℤ, pos, negsuc, suc, nat_lt, if◌then◌else◌}

-- The fields of a word: opcode 6..0, rd 11..7, funct3 14..12, rs1 19..15, rs2 24..20, funct7 31..25.
abbrev pub opcode_of : ℕ → ℕ
opcode_of word = word % 0x80

abbrev pub rd_of : ℕ → ℕ
rd_of word = word / 0x80 % 0x20

abbrev pub funct3_of : ℕ → ℕ
funct3_of word = word / 0x1000 % 8

abbrev pub rs1_of : ℕ → ℕ
rs1_of word = word / 0x8000 % 0x20

abbrev pub rs2_of : ℕ → ℕ
rs2_of word = word / 0x100000 % 0x20

abbrev pub funct7_of : ℕ → ℕ
funct7_of word = word / 0x2000000 % 0x80

-- Shifts by an amount have it in 25..20, and above it funct6 31..26; those of 32 bits have it where rs2 is.
abbrev pub funct6_of : ℕ → ℕ
funct6_of word = word / 0x4000000 % 0x40

abbrev pub amount_of : ℕ → ℕ
amount_of word = word / 0x100000 % 0x40

-- The bits of each immediate, from bit 0 up.

-- imm[11:0] 31..20
abbrev pub i_bits : ℕ → ℕ
i_bits word = word / 0x100000 % 0x1000

-- imm[4:0] 11..7, imm[11:5] 31..25
abbrev pub s_bits : ℕ → ℕ
s_bits word = word / 0x80 % 0x20 + 0x20 * (word / 0x2000000 % 0x80)

-- imm[4:1] 11..8, imm[10:5] 30..25, imm[11] 7, imm[12] 31
abbrev pub b_bits : ℕ → ℕ
b_bits word =
    2 * (word / 0x100 % 0x10) + 0x20 * (word / 0x2000000 % 0x40) + 0x800 * (word / 0x80 % 2)
    + 0x1000 * (word / 0x80000000 % 2)

-- imm[31:12] 31..12
abbrev pub u_bits : ℕ → ℕ
u_bits word = word / 0x1000 % 0x100000

-- imm[10:1] 30..21, imm[11] 20, imm[19:12] 19..12, imm[20] 31
abbrev pub j_bits : ℕ → ℕ
j_bits word =
    2 * (word / 0x200000 % 0x400) + 0x800 * (word / 0x100000 % 2) + 0x1000 * (word / 0x1000 % 0x100)
    + 0x100000 * (word / 0x80000000 % 2)

-- The words with these fields; `bits` are those of the immediate.
abbrev pub r_word : ℕ → ℕ → ℕ → ℕ → ℕ → ℕ → ℕ
r_word opcode funct3 funct7 rd rs1 rs2 =
    opcode + 0x80 * rd + 0x1000 * funct3 + 0x8000 * rs1 + 0x100000 * rs2 + 0x2000000 * funct7

abbrev pub i_word : ℕ → ℕ → ℕ → ℕ → ℕ → ℕ
i_word opcode funct3 rd rs1 bits =
    opcode + 0x80 * rd + 0x1000 * funct3 + 0x8000 * rs1 + 0x100000 * bits

abbrev pub shift_word : ℕ → ℕ → ℕ → ℕ → ℕ → ℕ → ℕ
shift_word opcode funct3 funct6 rd rs1 amount =
    opcode + 0x80 * rd + 0x1000 * funct3 + 0x8000 * rs1 + 0x100000 * amount + 0x4000000 * funct6

abbrev pub s_word : ℕ → ℕ → ℕ → ℕ → ℕ → ℕ
s_word opcode funct3 rs1 rs2 bits =
    opcode + 0x80 * (bits % 0x20) + 0x1000 * funct3 + 0x8000 * rs1 + 0x100000 * rs2 + 0x2000000 * (bits / 0x20)

abbrev pub b_word : ℕ → ℕ → ℕ → ℕ → ℕ → ℕ
b_word opcode funct3 rs1 rs2 bits =
    opcode + 0x80 * (bits / 0x800 % 2) + 0x100 * (bits / 2 % 0x10) + 0x1000 * funct3 + 0x8000 * rs1
    + 0x100000 * rs2 + 0x2000000 * (bits / 0x20 % 0x40) + 0x80000000 * (bits / 0x1000)

abbrev pub u_word : ℕ → ℕ → ℕ → ℕ
u_word opcode rd bits = opcode + 0x80 * rd + 0x1000 * bits

abbrev pub j_word : ℕ → ℕ → ℕ → ℕ
j_word opcode rd bits =
    opcode + 0x80 * rd + 0x1000 * (bits / 0x1000 % 0x100) + 0x100000 * (bits / 0x800 % 2)
    + 0x200000 * (bits / 2 % 0x400) + 0x80000000 * (bits / 0x100000)

-- a number in two's complement of so many bits; it is to fit into them: below 2 ^ width, and not below -(2 ^ width)
abbrev pub low_bits : ℕ → ℤ → ℕ
low_bits width (pos n) = n
low_bits width (negsuc n) = 2 ^ width - suc n

-- the number whose low bits these are, extended by their highest
abbrev pub sign_extended : ℕ → ℕ → ℤ
sign_extended width bits =
    if nat_lt bits (2 ^ (width - 1)) then pos bits else pos bits -ℤ pos (2 ^ width)
