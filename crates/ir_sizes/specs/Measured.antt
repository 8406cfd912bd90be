-- Types measured, where the extents of the named ones are known.
use Rattle.std.specs.Prelude.{◌≡◌, ℕ, zero, suc, Bool, nat_le, Option, None, Some, IfSome, List, [], map, slice_get, if◌then◌else◌}
use Rattle.std.specs.Option.{option_and_then}
use Rattle.ir_sizes.specs.declared.extent.Extent.{Extent}
use Rattle.ir_sizes.specs.declared.table.Table.{Table}
use Rattle.ir_sizes.specs.Extents.{IsExtent, array_extent, field_extent, integer_extent, limited, no_fields, pointer_extent, struct_extent}
use Rattle.ir_ident.specs.NameMaps.{value_of}
use Rattle.ir_ident.specs.Places.{place_by}
use Rattle.ir_sizes.specs.Sized.{level_limit}
use Rattle.ir_syntax.specs.Types.{TextTree, int, ptr, array, struct, named, TextTrees, end, more}
use Rattle.ir_ident.specs.declared.name.Name.{Name}
use Rattle.ir_syntax.specs.declared.type_def.TypeDef.{TypeDef}

-- what stands one level below, if a level is left
abbrev pub one_below : {A : Type 0} → ℕ → (ℕ → Option A) → Option A
one_below zero inner = None
one_below (suc levels) inner = inner levels

-- nothing where there are more levels than so many
abbrev pub within_levels : ℕ → Option Extent → Option Extent
within_levels levels None = None
within_levels levels (Some e) = if nat_le e.levels levels then Some e else None

abbrev mutual
  -- a type of at most so many levels, where `known` has the extents of names
  pub measured : (Name → Option Extent) → ℕ → TextTree → Option Extent
  measured known levels (int bits) = limited (integer_extent bits)
  measured known levels ptr = Some pointer_extent
  measured known levels (array len elem) = one_below levels (λ below. option_and_then (array_extent len) (measured known below elem))
  measured known levels (struct packed fields) =
      one_below levels (λ below. option_and_then (struct_extent packed) (measured_fields known below packed no_fields fields))
  measured known levels (named place) = within_levels levels (known place.name)

  -- fields behind those of the extent `before`
  pub measured_fields : (Name → Option Extent) → ℕ → Bool → Extent → TextTrees → Option Extent
  measured_fields known levels packed before end = Some before
  measured_fields known levels packed before (more head tail) =
      option_and_then
      (λ field. option_and_then (λ next. measured_fields known levels packed next tail) (field_extent packed before field))
      (measured known levels head)

-- a name stands for a struct
abbrev pub body_extent : (Name → Option Extent) → TextTree → Option Extent
body_extent known (struct packed fields) = measured known level_limit (struct packed fields)
body_extent known other = None

-- the place of the first definition of a name
abbrev pub place_of : List TypeDef → Name → Option ℕ
place_of defs name = place_by (λ d. d.name) defs name

-- what a list has at a place, nothing behind its end
abbrev pub extent_at : List (Option Extent) → ℕ → Option Extent
extent_at extents place = option_and_then (λ extent. extent) (slice_get extents place)

-- the extents of names, where these are the extents of the definitions
abbrev pub extents_by : List TypeDef → List (Option Extent) → Name → Option Extent
extents_by defs extents name = option_and_then (extent_at extents) (place_of defs name)

-- the extents of definitions, measured from other extents of them
abbrev pub next_extents : List TypeDef → (Name → Option Extent) → List (Option Extent)
next_extents defs known = map (λ d. body_extent known d.body) defs

-- the extents of definitions after so many rounds
unfoldable pub extents_after : List TypeDef → ℕ → List (Option Extent)
extents_after defs zero = []
extents_after defs (suc rounds) = next_extents defs (extents_by defs (extents_after defs rounds))

-- what a table knows of a name
abbrev pub known_by : Table → Name → Option Extent
known_by table name = option_and_then (extent_at table.extents.items) (value_of table.places name)

abbrev pub AreExtents : List (Option Extent) → Type 0
AreExtents extents = (place : ℕ) → IfSome (extent_at extents place) IsExtent

-- a table that knows what so many rounds find
abbrev pub IsTable : List TypeDef → ℕ → Table → Type 0
IsTable defs rounds table = (table.extents.items ≡ extents_after defs rounds) × ((name : Name) → value_of table.places name ≡ place_of defs name)
