-- The extent of a type, from the extents of its parts.
use Rattle.std.specs.Prelude.{ℕ, ◌+◌, ◌*◌, ◌≤◌, Bool, ◌&&◌, nat_le, max, Option, None, Some, if◌then◌else◌}
use Rattle.ir_sizes.specs.declared.extent.Extent.{Extent}
use Rattle.ty_core.specs.declared.extent.Layout.{Layout}
use Rattle.ty_core.specs.Places.{place_limit}
use Rattle.ty_core.specs.Size.{IsAlign, begin_at, bytes_of, layout_behind, least_power, rounded, size_limit}

-- a type that has an extent is not too big, and has no more places than a type may have
abbrev pub IsExtent : Extent → Type 0
IsExtent e = (e.layout.size ≤ size_limit) × IsAlign e.layout.align × (e.places ≤ place_limit)

-- neither too big nor of too many places
abbrev pub is_limited : Extent → Bool
is_limited e = nat_le e.layout.size size_limit && nat_le e.places place_limit

abbrev pub limited : Extent → Option Extent
limited e = if is_limited e then Some e else None

-- an integer or a pointer of this layout
abbrev pub scalar_extent : Layout → Extent
scalar_extent layout = record { layout = layout; places = 1; levels = 0 }

abbrev pub integer_extent : ℕ → Extent
integer_extent bits = scalar_extent (record { size = bytes_of bits; align = least_power (bytes_of bits) })

abbrev pub pointer_extent : Extent
pointer_extent = scalar_extent (record { size = 8; align = 8 })

-- an array of so many elements of this extent
abbrev pub array_extent : ℕ → Extent → Option Extent
array_extent len elem = limited (record {
  layout = record { size = len * rounded elem.layout.size elem.layout.align; align = elem.layout.align };
  places = 1 + elem.places;
  levels = 1 + elem.levels;
})

-- no fields: they end at 0
abbrev pub no_fields : Extent
no_fields = record { layout = record { size = 0; align = 1 }; places = 0; levels = 0 }

-- the fields up to one of this extent, from those before it
abbrev pub joined : Bool → Extent → Extent → Extent
joined packed before field = record {
  layout = record {
    size = begin_at packed before.layout.size field.layout.align + rounded field.layout.size field.layout.align;
    align = max before.layout.align field.layout.align;
  };
  places = before.places + (1 + field.places);
  levels = max before.levels field.levels;
}

-- the same within the limits
abbrev pub field_extent : Bool → Extent → Extent → Option Extent
field_extent packed before field = limited (joined packed before field)

-- a struct of these fields
abbrev pub struct_extent : Bool → Extent → Option Extent
struct_extent packed fields = limited (record {
  layout = layout_behind packed fields.layout.size fields.layout.align;
  places = 1 + fields.places;
  levels = 1 + fields.levels;
})
