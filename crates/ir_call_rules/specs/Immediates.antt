-- The arguments of intrinsics that are constants (LangRef, "Intrinsic Functions").
use Rattle.std.specs.Prelude.{ℕ, ◌%◌, Bool, true, false, ◌&&◌, ◌==◌, nat_le, Option, None, Some, List, [], ◌∷◌, if◌then◌else◌}
use Rattle.ir_call_rules.specs.Pieces.{piece_count}
use Rattle.cg_num.specs.declared.function.IntegerFunction.{IntegerFunction}
use Rattle.cg_num.specs.declared.function.IntegerFunction.TheVariants.{Bswap, Ctlz, Cttz, Abs}
use Rattle.ir_call_rules.specs.declared.intrinsic.Intrinsic.{Intrinsic}
use Rattle.ir_call_rules.specs.declared.intrinsic.Intrinsic.TheVariants.{Integer, Trap, Memcpy, Memmove, Memset}
use Rattle.ir_syntax.specs.Literals.{wrapped}
use Rattle.ir_syntax.specs.declared.instr.Arg.{Arg}
use Rattle.ir_syntax.specs.declared.operand.Operand.{Operand}
use Rattle.ir_syntax.specs.declared.operand.Operand.TheVariants.{Int, True, False}

-- `true`, `false` or a number
abbrev pub is_constant : Operand → Bool
is_constant (Int literal) = true
is_constant True = true
is_constant False = true
is_constant other = false

-- `false`, or a number that is it in one bit
abbrev pub is_false : Operand → Bool
is_false (Int literal) = wrapped 1 literal == 0
is_false False = true
is_false other = false

-- the flag behind a number is a constant
abbrev pub is_flagged : List Arg → Bool
is_flagged (value ∷ flag ∷ []) = is_constant flag.value
is_flagged other = false

-- the widths of `bswap` are multiples of 16
abbrev pub integer_fits : IntegerFunction → ℕ → List Arg → Bool
integer_fits Ctlz bits args = is_flagged args
integer_fits Cttz bits args = is_flagged args
integer_fits Abs bits args = is_flagged args
integer_fits Bswap bits args = bits % 16 == 0
integer_fits other bits args = true

-- at most 256 bytes, which are at most 64 pieces at an alignment
abbrev pub is_small : ℕ → ℕ → Bool
is_small align size = nat_le size 256 && nat_le (piece_count align size) 64

-- a length is a number of 64 bits
abbrev pub length_fits : ℕ → Operand → Bool
length_fits align (Int literal) = is_small align (wrapped 64 literal)
length_fits align other = false

-- an address is at a multiple of 1 where no alignment is written
abbrev pub align_or_1 : Option ℕ → ℕ
align_or_1 None = 1
align_or_1 (Some align) = align

abbrev pub lesser : ℕ → ℕ → ℕ
lesser a b = if nat_le a b then a else b

-- the length of a copy, in pieces at the lesser alignment, and the flag, which is false
abbrev pub copy_fits : List Arg → Bool
copy_fits (to ∷ from ∷ size ∷ flag ∷ []) =
    length_fits (lesser (align_or_1 to.align) (align_or_1 from.align)) size.value && is_false flag.value
copy_fits other = false

-- those of bytes that are set
abbrev pub set_fits : List Arg → Bool
set_fits (to ∷ byte ∷ size ∷ flag ∷ []) = length_fits (align_or_1 to.align) size.value && is_false flag.value
set_fits other = false

abbrev pub immediates_fit : List Arg → Intrinsic → Bool
immediates_fit args (Integer function bits) = integer_fits function bits args
immediates_fit args Trap = true
immediates_fit args Memcpy = copy_fits args
immediates_fit args Memmove = copy_fits args
immediates_fit args Memset = set_fits args
