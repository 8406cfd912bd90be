-- How instructions are spelled in assembly. A line is given without its line feed.
use Rattle.std.specs.Prelude.{◌&&◌, ◌==◌, ℕ, ℤ, pos, negsuc, Bool, false, List, [], ◌∷◌, ◌++◌, codes, if◌then◌else◌, slice_index_or}
use Rattle.std.specs.Fmt.{signed_decimal}
use Rattle.rv_isa.specs.declared.inst.Inst.{Inst}
use Rattle.rv_isa.specs.declared.shape.Shape.{Shape}
use Rattle.rv_isa.specs.declared.shape.Shape.TheVariants.{Registers, AddImmediate, Immediate, Load, Store, Branch, Upper, Jump, JumpRegister, Nothing}
use Rattle.rv_isa.specs.Table.{mnemonic, shape}

-- the registers by their names in the calling convention, x0 first
abbrev pub register_names : List (List ℕ)
register_names =
    codes "zero" ∷ codes "ra" ∷ codes "sp" ∷ codes "gp" ∷ codes "tp" ∷ codes "t0" ∷ codes "t1" ∷ codes "t2"
    ∷ codes "s0" ∷ codes "s1" ∷ codes "a0" ∷ codes "a1" ∷ codes "a2" ∷ codes "a3" ∷ codes "a4" ∷ codes "a5"
    ∷ codes "a6" ∷ codes "a7" ∷ codes "s2" ∷ codes "s3" ∷ codes "s4" ∷ codes "s5" ∷ codes "s6" ∷ codes "s7"
    ∷ codes "s8" ∷ codes "s9" ∷ codes "s10" ∷ codes "s11" ∷ codes "t3" ∷ codes "t4" ∷ codes "t5" ∷ codes "t6" ∷ []

abbrev pub register : ℕ → List ℕ
register r = slice_index_or register_names r []

-- operands, separated by a comma and a blank
abbrev pub operands : List (List ℕ) → List ℕ
operands [] = []
operands (first ∷ []) = first
operands (first ∷ second ∷ more) = first ++ codes ", " ++ operands (second ∷ more)

-- a directive or an instruction: a tab, the word, and, where it has operands, a tab and those
abbrev pub spelled_line : List ℕ → List (List ℕ) → List ℕ
spelled_line word [] = 9 ∷ word
spelled_line word (first ∷ more) = 9 ∷ (word ++ 9 ∷ operands (first ∷ more))

-- an address: an offset and a base register in brackets
abbrev pub based : ℤ → ℕ → List ℕ
based offset base = signed_decimal offset ++ 40 ∷ (register base ++ 41 ∷ [])

abbrev pub is_zero : ℤ → Bool
is_zero (pos n) = n == 0
is_zero (negsuc n) = false

-- an instruction with these operands, in its short form where it has one; a branch and a jump have their distance
abbrev pub spelled_by : Shape → List ℕ → Inst → List ℕ
spelled_by Registers word i = spelled_line word (register i.rd ∷ register i.rs1 ∷ register i.rs2 ∷ [])
spelled_by AddImmediate word i =
    if i.rs1 == 0 then spelled_line (codes "li") (register i.rd ∷ signed_decimal i.imm ∷ [])
    else if is_zero i.imm then spelled_line (codes "mv") (register i.rd ∷ register i.rs1 ∷ [])
    else spelled_line word (register i.rd ∷ register i.rs1 ∷ signed_decimal i.imm ∷ [])
spelled_by Immediate word i = spelled_line word (register i.rd ∷ register i.rs1 ∷ signed_decimal i.imm ∷ [])
spelled_by Load word i = spelled_line word (register i.rd ∷ based i.imm i.rs1 ∷ [])
spelled_by Store word i = spelled_line word (register i.rs2 ∷ based i.imm i.rs1 ∷ [])
spelled_by Branch word i = spelled_line word (register i.rs1 ∷ register i.rs2 ∷ signed_decimal i.imm ∷ [])
spelled_by Upper word i = spelled_line word (register i.rd ∷ signed_decimal i.imm ∷ [])
spelled_by Jump word i =
    if i.rd == 0 then spelled_line (codes "j") (signed_decimal i.imm ∷ [])
    else spelled_line word (register i.rd ∷ signed_decimal i.imm ∷ [])
spelled_by JumpRegister word i =
    if i.rd == 0 && i.rs1 == 1 && is_zero i.imm then spelled_line (codes "ret") []
    else spelled_line word (register i.rd ∷ based i.imm i.rs1 ∷ [])
spelled_by Nothing word i = spelled_line word []

abbrev pub instruction_line : Inst → List ℕ
instruction_line i = spelled_by (shape i.op) (mnemonic i.op) i

-- An instruction with a text in place of its immediate, in its short form where it has one.

abbrev pub word_to : Shape → List ℕ → Inst → List ℕ
word_to AddImmediate own i = if i.rs1 == 0 then codes "li" else own
word_to Jump own i = if i.rd == 0 then codes "j" else own
word_to other own i = own

-- such an address
abbrev pub based_on : List ℕ → ℕ → List ℕ
based_on offset base = offset ++ 40 ∷ (register base ++ 41 ∷ [])

-- the operands; of the instructions without an immediate the text stands alone
abbrev pub operands_to : Shape → Inst → List ℕ → List (List ℕ)
operands_to AddImmediate i last =
    if i.rs1 == 0 then register i.rd ∷ last ∷ [] else register i.rd ∷ register i.rs1 ∷ last ∷ []
operands_to Immediate i last = register i.rd ∷ register i.rs1 ∷ last ∷ []
operands_to Load i last = register i.rd ∷ based_on last i.rs1 ∷ []
operands_to Store i last = register i.rs2 ∷ based_on last i.rs1 ∷ []
operands_to Branch i last = register i.rs1 ∷ register i.rs2 ∷ last ∷ []
operands_to Upper i last = register i.rd ∷ last ∷ []
operands_to Jump i last = if i.rd == 0 then last ∷ [] else register i.rd ∷ last ∷ []
operands_to JumpRegister i last = register i.rd ∷ based_on last i.rs1 ∷ []
operands_to other i last = last ∷ []

abbrev pub line_to : Inst → List ℕ → List ℕ
line_to i last = spelled_line (word_to (shape i.op) (mnemonic i.op) i) (operands_to (shape i.op) i last)
