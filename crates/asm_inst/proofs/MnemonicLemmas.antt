-- What holds of each mnemonic.
use Rattle.std.proofs.Common.{◌≡◌, ◌≢◌, ◌<◌, ◌==◌, ℕ, List, Bool, true, not, nat_lt, refl, sym, ap, subst, ◌∙◌, arith, map}
use Rattle.std.proofs.lemmas.Bool.Decides.{nat_tests}
use Rattle.std.specs.Str.{bytes_eq}
use Rattle.std.proofs.lemmas.Slice.Eq.{bytes_eq-Decides}
use Rattle.rv_isa.specs.Table.{mnemonic}
use Rattle.rv_isa.specs.declared.op.Op.{Op}
use Rattle.rv_isa.specs.declared.op.Op.TheVariants.{Add, Sub, Sll, Slt, Sltu, Xor, Srl, Sra, Or, And, Mul, Mulh, Mulhsu, Mulhu, Div, Divu, Rem, Remu, Addw, Subw, Sllw, Srlw, Sraw, Mulw, Divw, Divuw, Remw, Remuw, Addi, Slti, Sltiu, Xori, Ori, Andi, Slli, Srli, Srai, Addiw, Slliw, Srliw, Sraiw, Lb, Lh, Lw, Ld, Lbu, Lhu, Lwu, Sb, Sh, Sw, Sd, Beq, Bne, Blt, Bge, Bltu, Bgeu, Lui, Auipc, Jal, Jalr, Fence, Ecall, Ebreak}
use Rattle.asm_inst.specs.Bytes.{IsAbsent}
use Rattle.asm_inst.specs.Mnemonics.{op_at, ops}
use Rattle.asm_inst.proofs.RegisterLemmas.{absent_from_test, below, below_holds, has_no, place, same_from_test}

abbrev pub number : Op → ℕ
number Add = 0
number Sub = 1
number Sll = 2
number Slt = 3
number Sltu = 4
number Xor = 5
number Srl = 6
number Sra = 7
number Or = 8
number And = 9
number Mul = 10
number Mulh = 11
number Mulhsu = 12
number Mulhu = 13
number Div = 14
number Divu = 15
number Rem = 16
number Remu = 17
number Addw = 18
number Subw = 19
number Sllw = 20
number Srlw = 21
number Sraw = 22
number Mulw = 23
number Divw = 24
number Divuw = 25
number Remw = 26
number Remuw = 27
number Addi = 28
number Slti = 29
number Sltiu = 30
number Xori = 31
number Ori = 32
number Andi = 33
number Slli = 34
number Srli = 35
number Srai = 36
number Addiw = 37
number Slliw = 38
number Srliw = 39
number Sraiw = 40
number Lb = 41
number Lh = 42
number Lw = 43
number Ld = 44
number Lbu = 45
number Lhu = 46
number Lwu = 47
number Sb = 48
number Sh = 49
number Sw = 50
number Sd = 51
number Beq = 52
number Bne = 53
number Blt = 54
number Bge = 55
number Bltu = 56
number Bgeu = 57
number Lui = 58
number Auipc = 59
number Jal = 60
number Jalr = 61
number Fence = 62
number Ecall = 63
number Ebreak = 64

pub numbered : (op : Op) → (nat_lt (number op) 65 ≡ true) × (op_at (number op) ≡ op)
numbered Add = (refl, refl)
numbered Sub = (refl, refl)
numbered Sll = (refl, refl)
numbered Slt = (refl, refl)
numbered Sltu = (refl, refl)
numbered Xor = (refl, refl)
numbered Srl = (refl, refl)
numbered Sra = (refl, refl)
numbered Or = (refl, refl)
numbered And = (refl, refl)
numbered Mul = (refl, refl)
numbered Mulh = (refl, refl)
numbered Mulhsu = (refl, refl)
numbered Mulhu = (refl, refl)
numbered Div = (refl, refl)
numbered Divu = (refl, refl)
numbered Rem = (refl, refl)
numbered Remu = (refl, refl)
numbered Addw = (refl, refl)
numbered Subw = (refl, refl)
numbered Sllw = (refl, refl)
numbered Srlw = (refl, refl)
numbered Sraw = (refl, refl)
numbered Mulw = (refl, refl)
numbered Divw = (refl, refl)
numbered Divuw = (refl, refl)
numbered Remw = (refl, refl)
numbered Remuw = (refl, refl)
numbered Addi = (refl, refl)
numbered Slti = (refl, refl)
numbered Sltiu = (refl, refl)
numbered Xori = (refl, refl)
numbered Ori = (refl, refl)
numbered Andi = (refl, refl)
numbered Slli = (refl, refl)
numbered Srli = (refl, refl)
numbered Srai = (refl, refl)
numbered Addiw = (refl, refl)
numbered Slliw = (refl, refl)
numbered Srliw = (refl, refl)
numbered Sraiw = (refl, refl)
numbered Lb = (refl, refl)
numbered Lh = (refl, refl)
numbered Lw = (refl, refl)
numbered Ld = (refl, refl)
numbered Lbu = (refl, refl)
numbered Lhu = (refl, refl)
numbered Lwu = (refl, refl)
numbered Sb = (refl, refl)
numbered Sh = (refl, refl)
numbered Sw = (refl, refl)
numbered Sd = (refl, refl)
numbered Beq = (refl, refl)
numbered Bne = (refl, refl)
numbered Blt = (refl, refl)
numbered Bge = (refl, refl)
numbered Bltu = (refl, refl)
numbered Bgeu = (refl, refl)
numbered Lui = (refl, refl)
numbered Auipc = (refl, refl)
numbered Jal = (refl, refl)
numbered Jalr = (refl, refl)
numbered Fence = (refl, refl)
numbered Ecall = (refl, refl)
numbered Ebreak = (refl, refl)

below_from_test : (n m : ℕ) → nat_lt n m ≡ true → n < m
below_from_test n m h = grind (arith, nat_tests)

pub number_is_below : (op : Op) → number op < 65
number_is_below op = below_from_test (number op) 65 (numbered op).0

-- a test that each instruction of the list passes
pub each : (p : Op → Bool) → ((n : ℕ) → n < 65 → p (op_at n) ≡ true) → (op : Op) → p op ≡ true
each p all op = subst (λ o. p o ≡ true) (numbered op).1 (all (number op) (number_is_below op))

abbrev mnemonics : List (List ℕ)
mnemonics = map mnemonic ops

abbrev finds : ℕ → Bool
finds n = place (mnemonic (op_at n)) mnemonics == n

found : (op : Op) → place (mnemonic op) mnemonics ≡ number op
found op =
    ap (λ o. place (mnemonic o) mnemonics) (sym (numbered op).1)
    ∙ same_from_test (place (mnemonic (op_at (number op))) mnemonics) (number op) (below_holds 65 finds refl (number op) (number_is_below op))

-- no two have the same
pub mnemonic_once : (op other : Op) → mnemonic op ≡ mnemonic other → op ≡ other
mnemonic_once op other e =
    sym (numbered op).1
    ∙ ap op_at (sym (found op) ∙ ap (λ (x : List ℕ). place x mnemonics) e ∙ found other)
    ∙ (numbered other).1

pub mnemonic_no_tab : (op : Op) → IsAbsent 9 (mnemonic op)
mnemonic_no_tab op =
    absent_from_test 9 (mnemonic op)
    (each (λ o. has_no 9 (mnemonic o)) (below_holds 65 (λ n. has_no 9 (mnemonic (op_at n))) refl) op)

other_from_test : (xs ys : List ℕ) → not (bytes_eq xs ys) ≡ true → xs ≡ ys → ⊥
other_from_test xs ys h e = grind (arith, nat_tests, (bytes_eq-Decides xs ys).1 e)

-- a word that differs from each of them
pub mnemonic_differs : (word : List ℕ) → below 65 (λ n. not (bytes_eq (mnemonic (op_at n)) word)) ≡ true → (op : Op) → mnemonic op ≢ word
mnemonic_differs word all op =
    other_from_test (mnemonic op) word (each (λ o. not (bytes_eq (mnemonic o) word)) (below_holds 65 (λ n. not (bytes_eq (mnemonic (op_at n)) word)) all) op)
