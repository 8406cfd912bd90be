-- Indices that go down a type (LangRef, "'getelementptr' Instruction").
use Rattle.std.specs.Prelude.{ℕ, zero, suc, Bool, true, false, ◌&&◌, Option, None, Some, List, [], ◌∷◌, map, if◌then◌else◌}
use Rattle.std.specs.Option.{option_and_then}
use Rattle.ir_geps.specs.Indices.{Index, field_number, is_integer, literal_index}
use Rattle.ir_sizes.specs.Named.{written_out}
use Rattle.ir_syntax.specs.Types.{TextTree, array, struct, TextTrees, end, more}
use Rattle.ir_syntax.specs.declared.operand.GepParts.{GepParts}
use Rattle.ir_syntax.specs.declared.type_def.TypeDef.{TypeDef}

-- the field at a place, counted from 0
abbrev pub field_at : TextTrees → ℕ → Option TextTree
field_at end place = None
field_at (more head tail) zero = Some head
field_at (more head tail) (suc place) = field_at tail place

-- the part that an index goes into: any element of an array, the field of a struct that it names, and no part of a scalar
abbrev pub part_in : Index → TextTree → Option TextTree
part_in index (array len elem) = if is_integer index then Some elem else None
part_in index (struct packed fields) = option_and_then (field_at fields) (field_number index)
part_in index other = None

abbrev pub part_of : List TypeDef → TextTree → Index → Option TextTree
part_of defs ty index = option_and_then (part_in index) (written_out defs ty)

abbrev pub holds_of : (TextTree → Bool) → Option TextTree → Bool
holds_of holds None = false
holds_of holds (Some ty) = holds ty

-- whether each index goes into a part
abbrev pub go_down : List TypeDef → TextTree → List Index → Bool
go_down defs ty [] = true
go_down defs ty (index ∷ indices) = holds_of (λ part. go_down defs part indices) (part_of defs ty index)

-- the first index steps over whole values of the type, and each further one goes into a part
abbrev pub is_in_range : List TypeDef → TextTree → List Index → Bool
is_in_range defs ty [] = true
is_in_range defs ty (first ∷ rest) = is_integer first && go_down defs ty rest

abbrev pub parts_in_range : List TypeDef → GepParts → Bool
parts_in_range defs g = is_in_range defs g.ty (map literal_index g.indices)
