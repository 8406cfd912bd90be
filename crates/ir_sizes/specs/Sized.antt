-- Types that have a size, where the names in them are replaced by what they stand for (LangRef, "Structure Type").
use Rattle.std.specs.Prelude.{ℕ, zero, suc, Bool, false, ◌&&◌, not, nat_le, Option, None, Some, List, [], ◌∷◌, option_map, if◌then◌else◌}
use Rattle.std.specs.List.{flat_map}
use Rattle.ir_ident.specs.Names.{same_name}
use Rattle.ir_syntax.specs.Types as text
use Rattle.ir_syntax.specs.Types.{TextTree, TextTrees}
use Rattle.ir_ident.specs.declared.name.Name.{Name}
use Rattle.ir_syntax.specs.declared.type_def.TypeDef.{TypeDef}
use Rattle.ty_core.specs.Places.{places_of, place_limit}
use Rattle.ty_core.specs.declared.extent.Layout.{Layout}
use Rattle.ty_core.specs.Size.{greatest_size, layout_of, size_limit}
use Rattle.ty_core.specs.Tree.{Tree, int, ptr, array, struct, Trees, end, more}
use Rattle.ir_syntax.specs.Lines.{line_if}

-- what a name stands for, by its first definition
abbrev pub body_of : List TypeDef → Name → Option TextTree
body_of [] name = None
body_of (d ∷ defs) name = if same_name d.name name then Some d.body else body_of defs name

abbrev pub more_of : Option Tree → Option Trees → Option Trees
more_of None tail = None
more_of (Some head) None = None
more_of (Some head) (Some tail) = Some (more head tail)

-- the types of fields, where `inner` replaces the names in one
abbrev pub fields_by : (TextTree → Option Tree) → TextTrees → Option Trees
fields_by inner text.end = Some end
fields_by inner (text.more head tail) = more_of (inner head) (fields_by inner tail)

-- a name stands for a struct
abbrev pub named_by : (TextTree → Option Tree) → Option TextTree → Option Tree
named_by inner (Some (text.struct packed fields)) = option_map (struct packed) (fields_by inner fields)
named_by inner other = None

-- a type, where `inner` replaces the names in its parts
abbrev pub type_by : List TypeDef → (TextTree → Option Tree) → TextTree → Option Tree
type_by defs inner (text.int bits) = Some (int bits)
type_by defs inner text.ptr = Some ptr
type_by defs inner (text.array len elem) = option_map (array len) (inner elem)
type_by defs inner (text.struct packed fields) = option_map (struct packed) (fields_by inner fields)
type_by defs inner (text.named place) = named_by inner (body_of defs place.name)

-- a scalar
abbrev pub scalar : TextTree → Option Tree
scalar (text.int bits) = Some (int bits)
scalar text.ptr = Some ptr
scalar other = None

-- a type in which arrays and structs stand at most so many levels inside each other, with the names in it replaced
unfoldable pub replaced : List TypeDef → ℕ → TextTree → Option Tree
replaced defs zero ty = scalar ty
replaced defs (suc levels) ty = type_by defs (replaced defs levels) ty

-- the most levels that a type may have
abbrev pub level_limit : ℕ
level_limit = 64

abbrev pub is_small : Option Tree → Bool
is_small None = false
is_small (Some tree) = nat_le (greatest_size tree) size_limit && nat_le (places_of tree) place_limit

-- a type that ends, of at most 64 levels, in which no type takes more than 4,294,967,295 bytes, and of at most 65,536 places
abbrev pub is_sized : List TypeDef → TextTree → Bool
is_sized defs ty = is_small (replaced defs level_limit ty)

-- a type that is small, no other
abbrev pub small_tree : Option Tree → Option Tree
small_tree tree = if is_small tree then tree else None

-- a type that has a size, with the names in it replaced
abbrev pub sized_tree : List TypeDef → TextTree → Option Tree
sized_tree defs ty = small_tree (replaced defs level_limit ty)

-- the layout of a type that has a size
abbrev pub layout_in : List TypeDef → TextTree → Option Layout
layout_in defs ty = option_map layout_of (sized_tree defs ty)

-- the lines of some of the definitions, those of types that have no size
abbrev pub unsized_lines_in : List TypeDef → List TypeDef → List ℕ
unsized_lines_in defs some = flat_map (λ d. line_if (not (is_sized defs d.body)) d.line) some

-- the lines of the definitions of types that have no size
abbrev pub unsized_lines : List TypeDef → List ℕ
unsized_lines defs = unsized_lines_in defs defs
