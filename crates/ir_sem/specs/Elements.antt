-- The address that a getelementptr makes (LangRef, "'getelementptr' Instruction").
use Rattle.std.specs.Prelude.{ℕ, ◌+◌, ◌*◌, ◌%◌, ◌^◌, Option, None, Some, option_map, List, [], ◌∷◌}
use Rattle.std.specs.Option.{option_and_then}
use Rattle.ir_geps.specs.Indices.{field_number, operand_index, sign_extended}
use Rattle.ir_geps.specs.Offsets.{field_begin, stride}
use Rattle.ir_geps.specs.Ranges.{part_of}
use Rattle.ir_sem.specs.Operands.{bits_of, or_zero}
use Rattle.ir_sem.specs.declared.value.Value.{Value}
use Rattle.ir_sem.specs.declared.value.Value.TheVariants.{Number, Poison}
use Rattle.ir_sizes.specs.Named.{written_out}
use Rattle.ir_sizes.specs.Sized.{layout_in}
use Rattle.ir_syntax.specs.Types.{TextTree, array, struct}
use Rattle.ir_syntax.specs.declared.operand.Operand.{Operand}
use Rattle.ir_syntax.specs.declared.operand.TypedOperand.{TypedOperand}
use Rattle.ir_syntax.specs.declared.type_def.TypeDef.{TypeDef}

-- the bytes from one value of a type to the next
abbrev pub stride_of : List TypeDef → TextTree → ℕ
stride_of defs ty = or_zero (option_map stride (layout_in defs ty))

abbrev pub added : Value → Value → Value
added (Number a) (Number b) = Number ((a + b) % 2 ^ 64)
added a b = Poison

-- as many strides as a number of these bits says, by its sign
abbrev pub scaled : ℕ → ℕ → Value → Value
scaled stride bits (Number n) = Number (sign_extended bits n * stride % 2 ^ 64)
scaled stride bits Poison = Poison

-- how far an index goes into a type that is written out: over elements, or to a field
abbrev pub into : List TypeDef → (TextTree → Operand → Value) → TypedOperand → Option TextTree → Value
into defs value index (Some (array len elem)) = scaled (stride_of defs elem) (bits_of index.ty) (value index.ty index.value)
into defs value index (Some (struct packed fields)) =
    Number (or_zero (option_and_then (field_begin defs packed 0 fields) (field_number (operand_index index))))
into defs value index other = Number 0

-- how far these indices go into a type
abbrev pub within : List TypeDef → (TextTree → Operand → Value) → List TypedOperand → Option TextTree → Value
within defs value [] ty = Number 0
within defs value (index ∷ indices) None = Number 0
within defs value (index ∷ indices) (Some ty) =
    added (into defs value index (written_out defs ty)) (within defs value indices (part_of defs ty (operand_index index)))

-- the first index steps over whole values of the type, and each further one goes into a part
abbrev pub offset_of : List TypeDef → (TextTree → Operand → Value) → TextTree → List TypedOperand → Value
offset_of defs value ty [] = Number 0
offset_of defs value ty (first ∷ rest) =
    added (scaled (stride_of defs ty) (bits_of first.ty) (value first.ty first.value)) (within defs value rest (Some ty))

abbrev pub element_address : List TypeDef → (TextTree → Operand → Value) → TextTree → Value → List TypedOperand → Value
element_address defs value ty base indices = added base (offset_of defs value ty indices)
