-- What each instruction does (chapters "RV64I Base Integer Instruction Set" and "'M' Extension for Integer Multiplication and
-- Division"), once the numbers in its registers are known.
use Rattle.std.specs.Prelude.{◌-◌, ◌%◌, ℕ, true, false, not, nat_eq, nat_lt, bit_and, bit_or, bit_xor}
use Rattle.rv_isa.specs.declared.op.Op.{Op}
use Rattle.rv_isa.specs.declared.op.Op.TheVariants.{Add, Sub, Sll, Slt, Sltu, Xor, Srl, Sra, Or, And, Mul, Mulh, Mulhsu, Mulhu, Div, Divu, Rem, Remu, Addw, Subw, Sllw, Srlw, Sraw, Mulw, Divw, Divuw, Remw, Remuw, Addi, Slti, Sltiu, Xori, Ori, Andi, Slli, Srli, Srai, Addiw, Slliw, Srliw, Sraiw, Lb, Lh, Lw, Ld, Lbu, Lhu, Lwu, Sb, Sh, Sw, Sd, Beq, Bne, Blt, Bge, Bltu, Bgeu, Lui, Auipc, Jal, Jalr, Fence, Ecall, Ebreak}
use Rattle.rv_mach.specs.declared.action.Action.{Action}
use Rattle.rv_mach.specs.declared.action.Action.TheVariants.{Set, Load, Store, Branch, Jump, Pass, Call, Break}
use Rattle.rv_mach.specs.declared.size.Size.TheVariants.{Byte, Half, Word, Double}
use Rattle.rv_mach.specs.Values.{sum, difference, sum_w, difference_w, bit_of, is_below, left, right, right_signed, left_w, right_w, right_signed_w, product, high_signed, high_mixed, high_unsigned, product_w, quotient, remainder, quotient_signed, remainder_signed, quotient_w, remainder_w, quotient_signed_w, remainder_signed_w, upper}

-- by the numbers in rs1 and rs2, the immediate, and the address of the instruction
abbrev pub action_of : Op → ℕ → ℕ → ℕ → ℕ → Action
action_of Add a b imm pc = Set (sum a b)
action_of Sub a b imm pc = Set (difference a b)
action_of Sll a b imm pc = Set (left a b)
action_of Slt a b imm pc = Set (bit_of (is_below a b))
action_of Sltu a b imm pc = Set (bit_of (nat_lt a b))
action_of Xor a b imm pc = Set (bit_xor a b)
action_of Srl a b imm pc = Set (right a b)
action_of Sra a b imm pc = Set (right_signed a b)
action_of Or a b imm pc = Set (bit_or a b)
action_of And a b imm pc = Set (bit_and a b)
action_of Mul a b imm pc = Set (product a b)
action_of Mulh a b imm pc = Set (high_signed a b)
action_of Mulhsu a b imm pc = Set (high_mixed a b)
action_of Mulhu a b imm pc = Set (high_unsigned a b)
action_of Div a b imm pc = Set (quotient_signed a b)
action_of Divu a b imm pc = Set (quotient a b)
action_of Rem a b imm pc = Set (remainder_signed a b)
action_of Remu a b imm pc = Set (remainder a b)
action_of Addw a b imm pc = Set (sum_w a b)
action_of Subw a b imm pc = Set (difference_w a b)
action_of Sllw a b imm pc = Set (left_w a b)
action_of Srlw a b imm pc = Set (right_w a b)
action_of Sraw a b imm pc = Set (right_signed_w a b)
action_of Mulw a b imm pc = Set (product_w a b)
action_of Divw a b imm pc = Set (quotient_signed_w a b)
action_of Divuw a b imm pc = Set (quotient_w a b)
action_of Remw a b imm pc = Set (remainder_signed_w a b)
action_of Remuw a b imm pc = Set (remainder_w a b)
action_of Addi a b imm pc = Set (sum a imm)
action_of Slti a b imm pc = Set (bit_of (is_below a imm))
action_of Sltiu a b imm pc = Set (bit_of (nat_lt a imm))
action_of Xori a b imm pc = Set (bit_xor a imm)
action_of Ori a b imm pc = Set (bit_or a imm)
action_of Andi a b imm pc = Set (bit_and a imm)
action_of Slli a b imm pc = Set (left a imm)
action_of Srli a b imm pc = Set (right a imm)
action_of Srai a b imm pc = Set (right_signed a imm)
action_of Addiw a b imm pc = Set (sum_w a imm)
action_of Slliw a b imm pc = Set (left_w a imm)
action_of Srliw a b imm pc = Set (right_w a imm)
action_of Sraiw a b imm pc = Set (right_signed_w a imm)
action_of Lb a b imm pc = Load Byte true (sum a imm)
action_of Lh a b imm pc = Load Half true (sum a imm)
action_of Lw a b imm pc = Load Word true (sum a imm)
action_of Ld a b imm pc = Load Double false (sum a imm)
action_of Lbu a b imm pc = Load Byte false (sum a imm)
action_of Lhu a b imm pc = Load Half false (sum a imm)
action_of Lwu a b imm pc = Load Word false (sum a imm)
action_of Sb a b imm pc = Store Byte b (sum a imm)
action_of Sh a b imm pc = Store Half b (sum a imm)
action_of Sw a b imm pc = Store Word b (sum a imm)
action_of Sd a b imm pc = Store Double b (sum a imm)
action_of Beq a b imm pc = Branch (nat_eq a b) (sum pc imm)
action_of Bne a b imm pc = Branch (not (nat_eq a b)) (sum pc imm)
action_of Blt a b imm pc = Branch (is_below a b) (sum pc imm)
action_of Bge a b imm pc = Branch (not (is_below a b)) (sum pc imm)
action_of Bltu a b imm pc = Branch (nat_lt a b) (sum pc imm)
action_of Bgeu a b imm pc = Branch (not (nat_lt a b)) (sum pc imm)
action_of Lui a b imm pc = Set (upper imm)
action_of Auipc a b imm pc = Set (sum pc (upper imm))
action_of Jal a b imm pc = Jump (sum pc imm)
action_of Jalr a b imm pc = Jump (sum a imm - sum a imm % 2)
action_of Fence a b imm pc = Pass
action_of Ecall a b imm pc = Call
action_of Ebreak a b imm pc = Break

-- a call of the environment
abbrev pub IsCall : Action → Type 0
IsCall (Set value) = ⊥
IsCall (Load size signed address) = ⊥
IsCall (Store size value address) = ⊥
IsCall (Branch taken target) = ⊥
IsCall (Jump target) = ⊥
IsCall Pass = ⊥
IsCall Call = Unit {0}
IsCall Break = ⊥
