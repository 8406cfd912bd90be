-- Lemmas on the table, with one line for each instruction, and what follows for the whole table.
use Rattle.std.proofs.Common.{◌≡◌, ◌≢◌, ◌^◌, ◌<◌, ◌&&◌, ◌==◌, ℕ, Bool, true, false, cond, nat_lt, Option, Some, None, IfSome, List, ◌∷◌, [], arith, refl, ap, sym, subst, ◌∙◌, find, option_map}
use Rattle.std.proofs.lemmas.Bool.{and_parts}
use Rattle.std.proofs.lemmas.Bool.Decides.{nat_tests}
use Rattle.rv_isa.specs.Format.{opcode_of, funct3_of, funct6_of, funct7_of}
use Rattle.rv_isa.specs.Encoding.{op_at, IsRow, IsInst, encoded, decoded, inst_in, op_of, has_row, HasWord}
use Rattle.rv_isa.specs.Table.{row, instructions_of}
use Rattle.rv_isa.specs.declared.inst.Inst.{Inst}
use Rattle.rv_isa.specs.declared.op.Op.{Op}
use Rattle.rv_isa.specs.declared.op.Op.TheVariants.{Add, Sub, Sll, Slt, Sltu, Xor, Srl, Sra, Or, And, Mul, Mulh, Mulhsu, Mulhu, Div, Divu, Rem, Remu, Addw, Subw, Sllw, Srlw, Sraw, Mulw, Divw, Divuw, Remw, Remuw, Addi, Slti, Sltiu, Xori, Ori, Andi, Slli, Srli, Srai, Addiw, Slliw, Srliw, Sraiw, Lb, Lh, Lw, Ld, Lbu, Lhu, Lwu, Sb, Sh, Sw, Sd, Beq, Bne, Blt, Bge, Bltu, Bgeu, Lui, Auipc, Jal, Jalr, Fence, Ecall, Ebreak}
use Rattle.rv_isa.specs.declared.row.Row.{Row}
use Rattle.rv_isa.specs.declared.row.Row.TheVariants.{RType, IType, Shift, ShiftW, SType, BType, UType, JType, Whole}
use Rattle.rv_isa.proofs.Formats.{IsInRegisters, GivesBack, gives_back, is_word_of}

-- what a row fixes fits its fields, as a test
fits : Row → Bool
fits (RType opcode funct3 funct7) = nat_lt opcode 0x80 && nat_lt funct3 8 && nat_lt funct7 0x80
fits (IType opcode funct3) = nat_lt opcode 0x80 && nat_lt funct3 8
fits (Shift opcode funct3 funct6) = nat_lt opcode 0x80 && nat_lt funct3 8 && nat_lt funct6 0x40
fits (ShiftW opcode funct3 funct7) = nat_lt opcode 0x80 && nat_lt funct3 8 && nat_lt funct7 0x80
fits (SType opcode funct3) = nat_lt opcode 0x80 && nat_lt funct3 8
fits (BType opcode funct3) = nat_lt opcode 0x80 && nat_lt funct3 8
fits (UType opcode) = nat_lt opcode 0x80
fits (JType opcode) = nat_lt opcode 0x80
fits (Whole word) = nat_lt word 0x100000000

row_by : (r : Row) → fits r ≡ true → IsRow r
unfolding fits
row_by (RType opcode funct3 funct7) is = grind (arith, nat_tests)
row_by (IType opcode funct3) is = grind (arith, nat_tests)
row_by (Shift opcode funct3 funct6) is = grind (arith, nat_tests)
row_by (ShiftW opcode funct3 funct7) is = grind (arith, nat_tests)
row_by (SType opcode funct3) is = grind (arith, nat_tests)
row_by (BType opcode funct3) is = grind (arith, nat_tests)
row_by (UType opcode) is = grind (arith, nat_tests)
row_by (JType opcode) is = grind (arith, nat_tests)
row_by (Whole word) is = grind (arith, nat_tests)

rows_fit : (op : Op) → fits (row op) ≡ true
unfolding fits
rows_fit Add = refl
rows_fit Sub = refl
rows_fit Sll = refl
rows_fit Slt = refl
rows_fit Sltu = refl
rows_fit Xor = refl
rows_fit Srl = refl
rows_fit Sra = refl
rows_fit Or = refl
rows_fit And = refl
rows_fit Mul = refl
rows_fit Mulh = refl
rows_fit Mulhsu = refl
rows_fit Mulhu = refl
rows_fit Div = refl
rows_fit Divu = refl
rows_fit Rem = refl
rows_fit Remu = refl
rows_fit Addw = refl
rows_fit Subw = refl
rows_fit Sllw = refl
rows_fit Srlw = refl
rows_fit Sraw = refl
rows_fit Mulw = refl
rows_fit Divw = refl
rows_fit Divuw = refl
rows_fit Remw = refl
rows_fit Remuw = refl
rows_fit Addi = refl
rows_fit Slti = refl
rows_fit Sltiu = refl
rows_fit Xori = refl
rows_fit Ori = refl
rows_fit Andi = refl
rows_fit Slli = refl
rows_fit Srli = refl
rows_fit Srai = refl
rows_fit Addiw = refl
rows_fit Slliw = refl
rows_fit Srliw = refl
rows_fit Sraiw = refl
rows_fit Lb = refl
rows_fit Lh = refl
rows_fit Lw = refl
rows_fit Ld = refl
rows_fit Lbu = refl
rows_fit Lhu = refl
rows_fit Lwu = refl
rows_fit Sb = refl
rows_fit Sh = refl
rows_fit Sw = refl
rows_fit Sd = refl
rows_fit Beq = refl
rows_fit Bne = refl
rows_fit Blt = refl
rows_fit Bge = refl
rows_fit Bltu = refl
rows_fit Bgeu = refl
rows_fit Lui = refl
rows_fit Auipc = refl
rows_fit Jal = refl
rows_fit Jalr = refl
rows_fit Fence = refl
rows_fit Ecall = refl
rows_fit Ebreak = refl

pub is_row : (op : Op) → IsRow (row op)
is_row op = row_by (row op) (rows_fit op)

-- a word has what a row fixes
abbrev HasRow : Row → ℕ → Type 0
HasRow r word = has_row r (opcode_of word) (funct3_of word) (funct6_of word) (funct7_of word) word ≡ true

-- A word that has what a row fixes: the search through the table, at those numbers, tells its instruction.

at_numbers : (word opcode funct3 funct6 funct7 : ℕ) (op : Op)
    → opcode_of word ≡ opcode → funct3_of word ≡ funct3 → funct6_of word ≡ funct6 → funct7_of word ≡ funct7
    → op_at opcode funct3 funct6 funct7 word ≡ Some op → op_of word ≡ Some op
at_numbers word opcode funct3 funct6 funct7 op is_opcode is_funct3 is_funct6 is_funct7 found =
    ap (λ n. op_at n (funct3_of word) (funct6_of word) (funct7_of word) word) is_opcode
    ∙ ap (λ n. op_at opcode n (funct6_of word) (funct7_of word) word) is_funct3
    ∙ ap (λ n. op_at opcode funct3 n (funct7_of word) word) is_funct6
    ∙ ap (λ n. op_at opcode funct3 funct6 n word) is_funct7 ∙ found

same : (n m : ℕ) → (n == m) ≡ true → n ≡ m
same n m is = grind (arith, nat_tests)

-- for the R format, and for shifts of 32 bits
by_r : (opcode funct3 funct7 word : ℕ) (op : Op) → HasRow (RType opcode funct3 funct7) word
    → op_at opcode funct3 (funct6_of word) funct7 word ≡ Some op → op_of word ≡ Some op
by_r opcode funct3 funct7 word op fixed found =
    let last = and_parts (opcode_of word == opcode && funct3_of word == funct3) (funct7_of word == funct7) fixed in
    let first = and_parts (opcode_of word == opcode) (funct3_of word == funct3) last.0 in
    at_numbers word opcode funct3 (funct6_of word) funct7 op (same _ _ first.0) (same _ _ first.1) refl (same _ _ last.1) found

-- for shifts of 64 bits
by_shift : (opcode funct3 funct6 word : ℕ) (op : Op) → HasRow (Shift opcode funct3 funct6) word
    → op_at opcode funct3 funct6 (funct7_of word) word ≡ Some op → op_of word ≡ Some op
by_shift opcode funct3 funct6 word op fixed found =
    let last = and_parts (opcode_of word == opcode && funct3_of word == funct3) (funct6_of word == funct6) fixed in
    let first = and_parts (opcode_of word == opcode) (funct3_of word == funct3) last.0 in
    at_numbers word opcode funct3 funct6 (funct7_of word) op (same _ _ first.0) (same _ _ first.1) (same _ _ last.1) refl found

-- for the I format, and likewise S and B
by_i : (opcode funct3 word : ℕ) (op : Op) → HasRow (IType opcode funct3) word
    → op_at opcode funct3 (funct6_of word) (funct7_of word) word ≡ Some op → op_of word ≡ Some op
by_i opcode funct3 word op fixed found =
    let both = and_parts (opcode_of word == opcode) (funct3_of word == funct3) fixed in
    at_numbers word opcode funct3 (funct6_of word) (funct7_of word) op (same _ _ both.0) (same _ _ both.1) refl refl found

-- for the U format, and likewise J
by_u : (opcode word : ℕ) (op : Op) → HasRow (UType opcode) word
    → op_at opcode (funct3_of word) (funct6_of word) (funct7_of word) word ≡ Some op → op_of word ≡ Some op
by_u opcode word op fixed found =
    at_numbers word opcode (funct3_of word) (funct6_of word) (funct7_of word) op (same _ _ fixed) refl refl refl found

by_whole : (word is : ℕ) (op : Op) → HasRow (Whole word) is → op_of word ≡ Some op → op_of is ≡ Some op
by_whole word is op fixed found = ap op_of (same is word fixed) ∙ found

pub op_of_row : (op : Op) (word : ℕ) → HasRow (row op) word → op_of word ≡ Some op
op_of_row Add word fixed = by_r 0x33 0 0 word Add fixed refl
op_of_row Sub word fixed = by_r 0x33 0 0x20 word Sub fixed refl
op_of_row Sll word fixed = by_r 0x33 1 0 word Sll fixed refl
op_of_row Slt word fixed = by_r 0x33 2 0 word Slt fixed refl
op_of_row Sltu word fixed = by_r 0x33 3 0 word Sltu fixed refl
op_of_row Xor word fixed = by_r 0x33 4 0 word Xor fixed refl
op_of_row Srl word fixed = by_r 0x33 5 0 word Srl fixed refl
op_of_row Sra word fixed = by_r 0x33 5 0x20 word Sra fixed refl
op_of_row Or word fixed = by_r 0x33 6 0 word Or fixed refl
op_of_row And word fixed = by_r 0x33 7 0 word And fixed refl
op_of_row Mul word fixed = by_r 0x33 0 1 word Mul fixed refl
op_of_row Mulh word fixed = by_r 0x33 1 1 word Mulh fixed refl
op_of_row Mulhsu word fixed = by_r 0x33 2 1 word Mulhsu fixed refl
op_of_row Mulhu word fixed = by_r 0x33 3 1 word Mulhu fixed refl
op_of_row Div word fixed = by_r 0x33 4 1 word Div fixed refl
op_of_row Divu word fixed = by_r 0x33 5 1 word Divu fixed refl
op_of_row Rem word fixed = by_r 0x33 6 1 word Rem fixed refl
op_of_row Remu word fixed = by_r 0x33 7 1 word Remu fixed refl
op_of_row Addw word fixed = by_r 0x3b 0 0 word Addw fixed refl
op_of_row Subw word fixed = by_r 0x3b 0 0x20 word Subw fixed refl
op_of_row Sllw word fixed = by_r 0x3b 1 0 word Sllw fixed refl
op_of_row Srlw word fixed = by_r 0x3b 5 0 word Srlw fixed refl
op_of_row Sraw word fixed = by_r 0x3b 5 0x20 word Sraw fixed refl
op_of_row Mulw word fixed = by_r 0x3b 0 1 word Mulw fixed refl
op_of_row Divw word fixed = by_r 0x3b 4 1 word Divw fixed refl
op_of_row Divuw word fixed = by_r 0x3b 5 1 word Divuw fixed refl
op_of_row Remw word fixed = by_r 0x3b 6 1 word Remw fixed refl
op_of_row Remuw word fixed = by_r 0x3b 7 1 word Remuw fixed refl
op_of_row Addi word fixed = by_i 0x13 0 word Addi fixed refl
op_of_row Slti word fixed = by_i 0x13 2 word Slti fixed refl
op_of_row Sltiu word fixed = by_i 0x13 3 word Sltiu fixed refl
op_of_row Xori word fixed = by_i 0x13 4 word Xori fixed refl
op_of_row Ori word fixed = by_i 0x13 6 word Ori fixed refl
op_of_row Andi word fixed = by_i 0x13 7 word Andi fixed refl
op_of_row Slli word fixed = by_shift 0x13 1 0 word Slli fixed refl
op_of_row Srli word fixed = by_shift 0x13 5 0 word Srli fixed refl
op_of_row Srai word fixed = by_shift 0x13 5 0x10 word Srai fixed refl
op_of_row Addiw word fixed = by_i 0x1b 0 word Addiw fixed refl
op_of_row Slliw word fixed = by_r 0x1b 1 0 word Slliw fixed refl
op_of_row Srliw word fixed = by_r 0x1b 5 0 word Srliw fixed refl
op_of_row Sraiw word fixed = by_r 0x1b 5 0x20 word Sraiw fixed refl
op_of_row Lb word fixed = by_i 0x03 0 word Lb fixed refl
op_of_row Lh word fixed = by_i 0x03 1 word Lh fixed refl
op_of_row Lw word fixed = by_i 0x03 2 word Lw fixed refl
op_of_row Ld word fixed = by_i 0x03 3 word Ld fixed refl
op_of_row Lbu word fixed = by_i 0x03 4 word Lbu fixed refl
op_of_row Lhu word fixed = by_i 0x03 5 word Lhu fixed refl
op_of_row Lwu word fixed = by_i 0x03 6 word Lwu fixed refl
op_of_row Sb word fixed = by_i 0x23 0 word Sb fixed refl
op_of_row Sh word fixed = by_i 0x23 1 word Sh fixed refl
op_of_row Sw word fixed = by_i 0x23 2 word Sw fixed refl
op_of_row Sd word fixed = by_i 0x23 3 word Sd fixed refl
op_of_row Beq word fixed = by_i 0x63 0 word Beq fixed refl
op_of_row Bne word fixed = by_i 0x63 1 word Bne fixed refl
op_of_row Blt word fixed = by_i 0x63 4 word Blt fixed refl
op_of_row Bge word fixed = by_i 0x63 5 word Bge fixed refl
op_of_row Bltu word fixed = by_i 0x63 6 word Bltu fixed refl
op_of_row Bgeu word fixed = by_i 0x63 7 word Bgeu fixed refl
op_of_row Lui word fixed = by_u 0x37 word Lui fixed refl
op_of_row Auipc word fixed = by_u 0x17 word Auipc fixed refl
op_of_row Jal word fixed = by_u 0x6f word Jal fixed refl
op_of_row Jalr word fixed = by_i 0x67 0 word Jalr fixed refl
op_of_row Fence word fixed = by_i 0x0f 0 word Fence fixed refl
op_of_row Ecall word fixed = by_whole 0x73 word Ecall fixed refl
op_of_row Ebreak word fixed = by_whole 0x100073 word Ebreak fixed refl

-- the registers of an instruction of the table
in_registers : (i : Inst) → IsInst i → IsInRegisters i
in_registers i is = record { rd = is.rd; rs1 = is.rs1; rs2 = is.rs2 }

-- an instruction's word has its fields
pub has_fields : (i : Inst) → IsInst i → GivesBack (row i.op) i (encoded i)
has_fields i is = gives_back (row i.op) i (is_row i.op) (in_registers i is) is.row

-- the fields of an instruction's word make the instruction
same_inst : (i : Inst) (word : ℕ) → GivesBack (row i.op) i word → inst_in i.op word ≡ i
same_inst i word h =
    let made : inst_in i.op word ≡ record { op = i.op; rd = i.rd; rs1 = i.rs1; rs2 = i.rs2; imm = i.imm } = cc in made

pub decoded-encoded : (i : Inst) → IsInst i → decoded (encoded i) ≡ Some i
decoded-encoded i is =
    let fields = has_fields i is in
    ap (option_map (λ op. inst_in op (encoded i))) (op_of_row i.op (encoded i) fields.fixed)
    ∙ ap Some (same_inst i (encoded i) fields)

-- what a search finds passes its test
found_passes : {X : Type 0} (test : X → Bool) (x : X) (rest : Option X) (b : Bool) → test x ≡ b
    → IfSome rest (λ y. test y ≡ true) → IfSome (cond b (Some x) rest) (λ y. test y ≡ true)
found_passes test x rest true is later = is
found_passes test x rest false is later = later

find_passes : {X : Type 0} (test : X → Bool) (xs : List X) → IfSome (find test xs) (λ y. test y ≡ true)
find_passes test [] = tt
find_passes test (x ∷ xs) = found_passes test x (find test xs) (test x) refl (find_passes test xs)

-- the instruction that the fields of a word give has the word
made_from : (word : ℕ) → word < 2 ^ 32 → (found : Option Op)
    → IfSome found (λ op. HasRow (row op) word)
    → IfSome (option_map (λ op. inst_in op word) found) (λ i. HasWord i word)
made_from word fits None passes = tt
made_from word fits (Some op) passes =
    let is = is_word_of (row op) (inst_in op word) word fits passes refl refl refl refl in
    (record { rd = is.held.rd; rs1 = is.held.rs1; rs2 = is.held.rs2; row = is.fits }, is.same)

pub encoded-decoded : (word : ℕ) → word < 2 ^ 32 → IfSome (decoded word) (λ i. HasWord i word)
encoded-decoded word fits = made_from word fits (op_of word)
    (find_passes (λ op. has_row (row op) (opcode_of word) (funct3_of word) (funct6_of word) (funct7_of word) word) (instructions_of (opcode_of word)))

-- a word of which the table tells an instruction is its word
pub found-has : (word : ℕ) (op : Op) → word < 2 ^ 32 → op_of word ≡ Some op → HasWord (inst_in op word) word
found-has word op fits found =
    subst (λ o. IfSome (option_map (λ op. inst_in op word) o) (λ i. HasWord i word)) found (encoded-decoded word fits)

-- a word of which it tells none is the word of none
pub none-has : (word : ℕ) → op_of word ≡ None → (i : Inst) → IsInst i → encoded i ≢ word
none-has word none i is same =
    let made : Some i ≡ None = sym (decoded-encoded i is) ∙ ap decoded same ∙ ap (option_map (λ op. inst_in op word)) none in cc
