-- The types that names stand for (LangRef, "Structure Type").
use Rattle.std.specs.Prelude.{Option, None, Some, List, slice_get}
use Rattle.std.specs.Option.{option_and_then}
use Rattle.ir_ident.specs.declared.name.Name.{Name}
use Rattle.ir_sizes.specs.Measured.{place_of}
use Rattle.ir_sizes.specs.Sized.{body_of}
use Rattle.ir_syntax.specs.Types.{TextTree, struct, named}
use Rattle.ir_syntax.specs.declared.type_def.TypeDef.{TypeDef}

-- the first definition of a name
abbrev pub first_def : List TypeDef → Name → Option TypeDef
first_def defs name = option_and_then (slice_get defs) (place_of defs name)

-- a name stands for a struct
abbrev pub struct_in : Option TextTree → Option TextTree
struct_in (Some (struct packed fields)) = Some (struct packed fields)
struct_in other = None

-- a type itself, or the struct that a name stands for
abbrev pub written_out : List TypeDef → TextTree → Option TextTree
written_out defs (named place) = struct_in (body_of defs place.name)
written_out defs other = Some other
