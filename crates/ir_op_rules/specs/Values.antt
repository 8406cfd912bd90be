-- Types of values, and the operands that they have (LangRef, "Single Value Types").
use Rattle.std.specs.Prelude.{Bool, true, false, ◌&&◌, ◌==◌, Option, None, Some, is_some}
use Rattle.ir_ident.specs.declared.name.Name.{Name}
use Rattle.ir_scope.specs.Operands.{same_scalar, value_fits}
use Rattle.ir_scope.specs.Scalars.{scalar_of}
use Rattle.ir_scope.specs.declared.scalar.Scalar.{Scalar}
use Rattle.ir_syntax.specs.Types.{TextTree, int, ptr}
use Rattle.ir_syntax.specs.declared.operand.Operand.{Operand}

-- a value's type is an integer or a pointer
abbrev pub is_value_type : TextTree → Bool
is_value_type ty = is_some (scalar_of ty)

abbrev pub is_int : TextTree → Bool
is_int (int bits) = true
is_int other = false

abbrev pub is_i1 : TextTree → Bool
is_i1 (int bits) = bits == 1
is_i1 other = false

abbrev pub is_ptr : TextTree → Bool
is_ptr ptr = true
is_ptr other = false

-- one type of values
abbrev pub are_same : Option Scalar → Option Scalar → Bool
are_same (Some a) (Some b) = same_scalar a b
are_same (Some a) None = false
are_same None b = false

abbrev pub int_fits : (Name → Option Scalar) → TextTree → Operand → Bool
int_fits locals ty value = is_int ty && value_fits locals ty value

abbrev pub condition_fits : (Name → Option Scalar) → TextTree → Operand → Bool
condition_fits locals ty value = is_i1 ty && value_fits locals ty value

abbrev pub address_fits : (Name → Option Scalar) → TextTree → Operand → Bool
address_fits locals ty value = is_ptr ty && value_fits locals ty value
