-- The types that values have (LangRef, "Single Value Types").
use Rattle.std.specs.Prelude.{Option, Some, None}
use Rattle.ir_syntax.specs.Types.{TextTree, int, ptr}
use Rattle.ir_syntax.specs.declared.instr.Op.{Op}
use Rattle.ir_syntax.specs.declared.instr.Op.TheVariants.{Wrapping, Exact, Bitwise, Icmp, Select, Cast, Freeze, Gep, Load, Store, Alloca, Call}
use Rattle.ir_scope.specs.declared.scalar.Scalar.{Scalar}
use Rattle.ir_scope.specs.declared.scalar.Scalar.TheVariants.{Int, Ptr}

-- an integer or a pointer; no array, struct or named type, which is one of a struct
abbrev pub scalar_of : TextTree → Option Scalar
scalar_of (int bits) = Some (Int bits)
scalar_of ptr = Some Ptr
scalar_of other = None

-- a type that may be left out
abbrev pub maybe_scalar : Option TextTree → Option Scalar
maybe_scalar None = None
maybe_scalar (Some ty) = scalar_of ty

-- the type of an operation's result
abbrev pub op_scalar : Op → Option Scalar
op_scalar (Wrapping op nuw nsw ty left right) = scalar_of ty
op_scalar (Exact op exact ty left right) = scalar_of ty
op_scalar (Bitwise op ty left right) = scalar_of ty
op_scalar (Icmp pred ty left right) = Some (Int 1)
op_scalar (Select condition_ty condition then_ty then_value else_ty else_value) = scalar_of then_ty
op_scalar (Cast op from value to) = scalar_of to
op_scalar (Freeze ty value) = scalar_of ty
op_scalar (Gep inbounds ty base_ty base indices) = Some Ptr
op_scalar (Load ty address_ty address align) = scalar_of ty
op_scalar (Store ty value address_ty address align) = None
op_scalar (Alloca ty count align) = Some Ptr
op_scalar (Call result params callee args) = maybe_scalar result
