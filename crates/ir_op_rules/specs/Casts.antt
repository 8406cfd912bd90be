-- Types that conversions go between (LangRef, "Conversion Operations").
use Rattle.std.specs.Prelude.{Bool, true, false, ◌&&◌, nat_lt, Option, None, Some}
use Rattle.ir_ident.specs.declared.name.Name.{Name}
use Rattle.ir_op_rules.specs.Values.{are_same}
use Rattle.ir_scope.specs.Operands.{value_fits}
use Rattle.ir_scope.specs.Scalars.{scalar_of}
use Rattle.ir_scope.specs.declared.scalar.Scalar.{Scalar}
use Rattle.ir_scope.specs.declared.scalar.Scalar.TheVariants.{Int, Ptr}
use Rattle.ir_syntax.specs.Types.{TextTree}
use Rattle.ir_syntax.specs.declared.instr.CastOp.{CastOp}
use Rattle.ir_syntax.specs.declared.instr.CastOp.TheVariants.{Trunc, Zext, Sext, PtrToInt, IntToPtr, BitCast}
use Rattle.ir_syntax.specs.declared.operand.Operand.{Operand}

-- two integers, the first of fewer bits
abbrev pub is_narrower : Scalar → Scalar → Bool
is_narrower (Int a) (Int b) = nat_lt a b
is_narrower (Int a) Ptr = false
is_narrower Ptr b = false

-- a pointer, and an integer
abbrev pub are_address_and_int : Scalar → Scalar → Bool
are_address_and_int Ptr (Int bits) = true
are_address_and_int Ptr Ptr = false
are_address_and_int (Int bits) b = false

-- `trunc` makes an integer narrower, `zext` and `sext` wider; `bitcast` keeps the type
abbrev pub converts : CastOp → Scalar → Scalar → Bool
converts Trunc from to = is_narrower to from
converts Zext from to = is_narrower from to
converts Sext from to = is_narrower from to
converts PtrToInt from to = are_address_and_int from to
converts IntToPtr from to = are_address_and_int to from
converts BitCast from to = are_same (Some from) (Some to)

-- both are types of values
abbrev pub converts_between : CastOp → Option Scalar → Option Scalar → Bool
converts_between op (Some from) (Some to) = converts op from to
converts_between op (Some from) None = false
converts_between op None to = false

abbrev pub cast_fits : (Name → Option Scalar) → CastOp → TextTree → Operand → TextTree → Bool
cast_fits locals op from value to = value_fits locals from value && converts_between op (scalar_of from) (scalar_of to)
