-- What functions of integers give (LangRef, "Standard C/C++ Library Intrinsics" and "Bit Manipulation Intrinsics").
use Rattle.std.specs.Prelude.{ℕ, zero, suc, ◌+◌, ◌*◌, ◌-◌, ◌/◌, ◌%◌, ◌^◌, pos, unsigned_abs, count_ones, Bool, ◌&&◌, nat_eq, int_lt, max, min, if◌then◌else◌}
use Rattle.std.specs.Int.Count.{count_leading_zeros, count_trailing_zeros}
use Rattle.cg_num.specs.Results.{unless_broken}
use Rattle.cg_num.specs.Signed.{modulo, signed}
use Rattle.cg_num.specs.declared.end.BinEnd.{BinEnd}
use Rattle.cg_num.specs.declared.end.BinEnd.TheVariants.{Value}
use Rattle.cg_num.specs.declared.function.IntegerFunction.{IntegerFunction}
use Rattle.cg_num.specs.declared.function.IntegerFunction.TheVariants.{Ctpop, Bswap, Ctlz, Cttz, Abs, Fshl, Fshr, Smax, Smin, Umax, Umin}

-- so many bytes of a number in the other order
abbrev pub swapped : ℕ → ℕ → ℕ
swapped zero a = 0
swapped (suc bytes) a = a % 256 * 256 ^ bytes + swapped bytes (a / 256)

-- two numbers as one, without its lowest bits
abbrev pub funnel : ℕ → ℕ → ℕ → ℕ → ℕ
funnel bits a b dropped = (a * 2 ^ bits + b) / 2 ^ dropped % 2 ^ bits

-- a flag that is set forbids this number
abbrev pub unless_forbidden : ℕ → Bool → ℕ → BinEnd
unless_forbidden flag forbidden value = unless_broken (nat_eq flag 1 && forbidden) value

-- the greater and the lesser of two signed numbers
abbrev pub signed_max : ℕ → ℕ → ℕ → ℕ
signed_max bits a b = if int_lt (signed bits a) (signed bits b) then b else a

abbrev pub signed_min : ℕ → ℕ → ℕ → ℕ
signed_min bits a b = if int_lt (signed bits a) (signed bits b) then a else b

-- what a function gives on numbers of so many bits. One that takes a flag has it as its second number; what a function does
-- not take means nothing.
abbrev pub function_of : IntegerFunction → ℕ → ℕ → ℕ → ℕ → BinEnd
function_of Ctpop bits a b c = Value (count_ones a)
function_of Bswap bits a b c = Value (swapped (bits / 8) a)
function_of Ctlz bits a b c = unless_forbidden b (nat_eq a 0) (count_leading_zeros bits a)
function_of Cttz bits a b c = unless_forbidden b (nat_eq a 0) (count_trailing_zeros bits a)
function_of Abs bits a b c = unless_forbidden b (nat_eq a (2 ^ (bits - 1))) (modulo bits (pos (unsigned_abs (signed bits a))))
function_of Fshl bits a b c = Value (funnel bits a b (bits - c % bits))
function_of Fshr bits a b c = Value (funnel bits a b (c % bits))
function_of Smax bits a b c = Value (signed_max bits a b)
function_of Smin bits a b c = Value (signed_min bits a b)
function_of Umax bits a b c = Value (max a b)
function_of Umin bits a b c = Value (min a b)
