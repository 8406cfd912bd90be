-- Sizes of the types that instructions write, and of what an `alloca` gives (LangRef, "Data Layout" and "'alloca' Instruction").
use Rattle.std.specs.Prelude.{ℕ, ◌*◌, Bool, true, false, ◌&&◌, nat_le, Option, None, Some, is_some, List, [], ◌∷◌, map, option_map, if◌then◌else◌}
use Rattle.std.specs.List.{flat_map, list_all}
use Rattle.ir_syntax.specs.Literals.{width_of, wrapped}
use Rattle.ir_syntax.specs.Types.{TextTree}
use Rattle.ir_syntax.specs.declared.instr.Op.{Op}
use Rattle.ir_syntax.specs.declared.instr.Op.TheVariants.{Alloca}
use Rattle.ir_syntax.specs.declared.operand.Operand.{Operand}
use Rattle.ir_syntax.specs.declared.operand.Operand.TheVariants.{Gep}
use Rattle.ir_syntax.specs.declared.operand.TypedLiteral.{TypedLiteral}
use Rattle.ir_walk.specs.Parts.{Part, type_part, operand_part, callee_part, label_part, op_parts}
use Rattle.ty_core.specs.Size.{rounded, size_limit}
use Rattle.ty_core.specs.declared.extent.Layout.{Layout}

-- the types that a constant address writes
abbrev pub operand_types : Operand → List TextTree
operand_types (Gep gep) = gep.ty ∷ map (λ i. i.ty) gep.indices
operand_types other = []

-- the types that a part writes
abbrev pub types_in_part : Part → List TextTree
types_in_part (type_part ty) = ty ∷ []
types_in_part (operand_part operand) = operand_types operand
types_in_part (callee_part callee) = []
types_in_part (label_part label) = []

-- each type that these parts write has a size, where `layouts` has the layouts of types
abbrev pub are_sized : (TextTree → Option Layout) → List Part → Bool
are_sized layouts parts = list_all (λ ty. is_some (layouts ty)) (flat_map types_in_part parts)

-- the number of elements of an `alloca`, a literal as a number of its type; one where none is written
abbrev pub count_of : Option TypedLiteral → Option ℕ
count_of None = Some 1
count_of (Some count) = option_map (λ bits. wrapped bits count.value) (width_of count.ty)

-- the size of so many elements of a layout, each of which takes its size up to a multiple of its alignment
abbrev pub alloca_size : Layout → ℕ → ℕ
alloca_size each count = count * rounded each.size each.align

-- that size, where it is at most 4,294,967,295 bytes
abbrev pub small_size : Layout → ℕ → Option ℕ
small_size each count = if nat_le (alloca_size each count) size_limit then Some (alloca_size each count) else None

abbrev pub is_small_alloca : Option Layout → Option ℕ → Bool
is_small_alloca (Some each) (Some count) = nat_le (alloca_size each count) size_limit
is_small_alloca (Some each) None = false
is_small_alloca None count = false

-- an `alloca` takes at most 4,294,967,295 bytes
abbrev pub is_within : (TextTree → Option Layout) → Op → Bool
is_within layouts (Alloca ty count align) = is_small_alloca (layouts ty) (count_of count)
is_within layouts other = true

-- the types that an instruction writes have sizes, and what an `alloca` gives has one
abbrev pub has_sizes : (TextTree → Option Layout) → Op → Bool
has_sizes layouts op = are_sized layouts (op_parts op) && is_within layouts op
