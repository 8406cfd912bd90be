-- Types of the operations on numbers, of comparisons and choices (LangRef, "Binary Operations", "Bitwise Binary Operations",
-- "'icmp' Instruction" and "'select' Instruction").
use Rattle.std.specs.Prelude.{Bool, ◌&&◌, Option}
use Rattle.ir_ident.specs.declared.name.Name.{Name}
use Rattle.ir_op_rules.specs.Values.{are_same, is_int}
use Rattle.ir_scope.specs.Operands.{value_fits}
use Rattle.ir_scope.specs.Scalars.{scalar_of}
use Rattle.ir_scope.specs.declared.scalar.Scalar.{Scalar}
use Rattle.ir_syntax.specs.Types.{TextTree}
use Rattle.ir_syntax.specs.declared.operand.Operand.{Operand}

-- two operands of one type: those of `icmp` are integers or pointers
abbrev pub pair_fits : (Name → Option Scalar) → TextTree → Operand → Operand → Bool
pair_fits locals ty left right = value_fits locals ty left && value_fits locals ty right

-- those of a binary operation are integers
abbrev pub binary_fits : (Name → Option Scalar) → TextTree → Operand → Operand → Bool
binary_fits locals ty left right = is_int ty && pair_fits locals ty left right

-- two values of one type
abbrev pub choice_fits : (Name → Option Scalar) → TextTree → Operand → TextTree → Operand → Bool
choice_fits locals then_ty then_value else_ty else_value =
    are_same (scalar_of then_ty) (scalar_of else_ty) && (value_fits locals then_ty then_value && value_fits locals else_ty else_value)
