-- Which operands a type has (LangRef, "Constants" and "Identifiers").
use Rattle.std.specs.Prelude.{Bool, true, false, ◌==◌, Option, Some, None}
use Rattle.ir_ident.specs.declared.name.Name.{Name}
use Rattle.ir_syntax.specs.Types.{TextTree}
use Rattle.ir_syntax.specs.declared.operand.Operand.{Operand}
use Rattle.ir_syntax.specs.declared.operand.Operand.TheVariants.{Local, Global, Int as IntLiteral, True, False, Null, Undef, Poison, Gep}
use Rattle.ir_scope.specs.Scalars.{scalar_of}
use Rattle.ir_scope.specs.declared.scalar.Scalar.{Scalar}
use Rattle.ir_scope.specs.declared.scalar.Scalar.TheVariants.{Int, Ptr}

abbrev pub is_integer : Scalar → Bool
is_integer (Int bits) = true
is_integer Ptr = false

abbrev pub is_bool : Scalar → Bool
is_bool (Int bits) = bits == 1
is_bool Ptr = false

abbrev pub is_pointer : Scalar → Bool
is_pointer (Int bits) = false
is_pointer Ptr = true

abbrev pub same_scalar : Scalar → Scalar → Bool
same_scalar (Int a) (Int b) = a == b
same_scalar Ptr Ptr = true
same_scalar (Int a) Ptr = false
same_scalar Ptr (Int b) = false

-- whether a value of the first type, if there is one, is of the second one
abbrev pub is_scalar : Option Scalar → Scalar → Bool
is_scalar None scalar = false
is_scalar (Some own) scalar = same_scalar own scalar

-- A value is of its own type, where `locals` has the types of local names; a number of any integer type, and `undef` and
-- `poison` of any type.
abbrev pub operand_fits : (Name → Option Scalar) → Scalar → Operand → Bool
operand_fits locals scalar (Local used) = is_scalar (locals used.name) scalar
operand_fits locals scalar (Global used) = is_pointer scalar
operand_fits locals scalar (IntLiteral literal) = is_integer scalar
operand_fits locals scalar True = is_bool scalar
operand_fits locals scalar False = is_bool scalar
operand_fits locals scalar Null = is_pointer scalar
operand_fits locals scalar Undef = true
operand_fits locals scalar Poison = true
operand_fits locals scalar (Gep gep) = is_pointer scalar

abbrev pub fits_maybe : (Name → Option Scalar) → Option Scalar → Operand → Bool
fits_maybe locals None operand = false
fits_maybe locals (Some scalar) operand = operand_fits locals scalar operand

-- the type is one of values, and the operand is of it
abbrev pub value_fits : (Name → Option Scalar) → TextTree → Operand → Bool
value_fits locals ty operand = fits_maybe locals (scalar_of ty) operand
