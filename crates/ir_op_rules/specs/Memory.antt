-- Types and alignments of the operations on memory (LangRef, "Memory Access and Addressing Operations").
use Rattle.std.specs.Prelude.{ℕ, Bool, true, ◌&&◌, Option, None, Some, List}
use Rattle.std.specs.List.{list_all}
use Rattle.ir_ident.specs.declared.name.Name.{Name}
use Rattle.ir_op_rules.specs.Values.{address_fits, int_fits, is_int, is_value_type}
use Rattle.ir_scope.specs.Alignments.{is_aligned}
use Rattle.ir_scope.specs.Operands.{value_fits}
use Rattle.ir_scope.specs.declared.scalar.Scalar.{Scalar}
use Rattle.ir_syntax.specs.Types.{TextTree}
use Rattle.ir_syntax.specs.declared.operand.Operand.{Operand}
use Rattle.ir_syntax.specs.declared.operand.TypedLiteral.{TypedLiteral}
use Rattle.ir_syntax.specs.declared.operand.TypedOperand.{TypedOperand}

-- the greatest alignment of an access, 2 to the power of 63
abbrev pub access_align_limit : ℕ
access_align_limit = 9223372036854775808

-- the greatest alignment of an `alloca`
abbrev pub alloca_align_limit : ℕ
alloca_align_limit = 16

-- an address, and indices that are integers
abbrev pub gep_fits : (Name → Option Scalar) → TextTree → Operand → List TypedOperand → Bool
gep_fits locals base_ty base indices = address_fits locals base_ty base && list_all (λ i. int_fits locals i.ty i.value) indices

abbrev pub load_fits : (Name → Option Scalar) → TextTree → TextTree → Operand → Option ℕ → Bool
load_fits locals ty address_ty address align =
    is_value_type ty && (address_fits locals address_ty address && is_aligned access_align_limit align)

abbrev pub store_fits : (Name → Option Scalar) → TextTree → Operand → TextTree → Operand → Option ℕ → Bool
store_fits locals ty value address_ty address align =
    value_fits locals ty value && (address_fits locals address_ty address && is_aligned access_align_limit align)

-- a number of elements that is written is an integer
abbrev pub counts_by_int : Option TypedLiteral → Bool
counts_by_int None = true
counts_by_int (Some count) = is_int count.ty

abbrev pub alloca_fits : Option TypedLiteral → Option ℕ → Bool
alloca_fits count align = counts_by_int count && is_aligned alloca_align_limit align
