-- The offset that the indices of a constant getelementptr make, in bytes modulo 2^64 (LangRef, "'getelementptr' Instruction").
use Rattle.std.specs.Prelude.{ℕ, zero, suc, ◌+◌, ◌*◌, ◌%◌, ◌^◌, Bool, nat_le, Option, None, Some, option_map, List, [], ◌∷◌, if◌then◌else◌}
use Rattle.std.specs.Option.{option_and_then}
use Rattle.ir_geps.specs.Indices.{literal_field, literal_index, literal_word}
use Rattle.ir_geps.specs.Ranges.{part_of}
use Rattle.ir_sizes.specs.Named.{written_out}
use Rattle.ir_sizes.specs.Sized.{layout_in}
use Rattle.ir_syntax.specs.Types.{TextTree, array, struct, TextTrees, end, more}
use Rattle.ir_syntax.specs.declared.operand.GepParts.{GepParts}
use Rattle.ir_syntax.specs.declared.operand.TypedLiteral.{TypedLiteral}
use Rattle.ir_syntax.specs.declared.type_def.TypeDef.{TypeDef}
use Rattle.ty_core.specs.declared.extent.Layout.{Layout}
use Rattle.ty_core.specs.Size.{begin_at, rounded, size_limit}

-- the bytes from one value to the next
abbrev pub stride : Layout → ℕ
stride layout = rounded layout.size layout.align

-- where a field ends behind one that ends at `at`; the struct has no size if that is behind the limit
abbrev pub field_end : Bool → ℕ → Layout → Option ℕ
field_end packed at field =
    if nat_le (begin_at packed at field.align + stride field) size_limit then Some (begin_at packed at field.align + stride field) else None

-- where the field at a place begins, the first of these fields behind one that ends at `at`
abbrev pub field_begin : List TypeDef → Bool → ℕ → TextTrees → ℕ → Option ℕ
field_begin defs packed at end place = None
field_begin defs packed at (more head tail) zero = option_map (λ field. begin_at packed at field.align) (layout_in defs head)
field_begin defs packed at (more head tail) (suc place) =
    option_and_then (λ next. field_begin defs packed next tail place) (option_and_then (field_end packed at) (layout_in defs head))

-- as many values of a type as a literal says
abbrev pub values_over : List TypeDef → TextTree → TypedLiteral → Option ℕ
values_over defs ty l = option_and_then (λ word. option_map (λ layout. word * stride layout) (layout_in defs ty)) (literal_word l.ty l.value)

-- where the part begins that an index goes into
abbrev pub begin_in : List TypeDef → TypedLiteral → TextTree → Option ℕ
begin_in defs l (array len elem) = values_over defs elem l
begin_in defs l (struct packed fields) = option_and_then (field_begin defs packed 0 fields) (literal_field l.ty l.value)
begin_in defs l other = None

abbrev pub begin_of : List TypeDef → TextTree → TypedLiteral → Option ℕ
begin_of defs ty l = option_and_then (begin_in defs l) (written_out defs ty)

abbrev pub sum_of : Option ℕ → Option ℕ → Option ℕ
sum_of None b = None
sum_of (Some a) None = None
sum_of (Some a) (Some b) = Some (a + b)

-- the begins of the parts that indices go into, added
abbrev pub offset_within : List TypeDef → TextTree → List TypedLiteral → Option ℕ
offset_within defs ty [] = Some 0
offset_within defs ty (l ∷ ls) = sum_of (begin_of defs ty l) (option_and_then (λ part. offset_within defs part ls) (part_of defs ty (literal_index l)))

abbrev pub in_64_bits : Option ℕ → Option ℕ
in_64_bits None = None
in_64_bits (Some n) = Some (n % 2 ^ 64)

-- the first index steps over whole values, and each further one goes into a part; none where one is out of range, or a type has no size
abbrev pub gep_offset : List TypeDef → TextTree → List TypedLiteral → Option ℕ
gep_offset defs ty [] = Some 0
gep_offset defs ty (first ∷ rest) = in_64_bits (sum_of (values_over defs ty first) (offset_within defs ty rest))

abbrev pub parts_offset : List TypeDef → GepParts → Option ℕ
parts_offset defs g = gep_offset defs g.ty g.indices
