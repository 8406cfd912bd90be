-- How many nodes a type has, where each field of a struct is a node of its own that holds the field's type.
use Rattle.std.specs.Prelude.{ℕ, ◌+◌}
use Rattle.ty_core.specs.Tree.{Tree, int, ptr, array, struct, Trees, end, more}

-- the greatest number of places that a type may have
abbrev pub place_limit : ℕ
place_limit = 65536

abbrev mutual
  -- an integer and a pointer have one place, an array one more than its element
  pub places_of : Tree → ℕ
  places_of (int bits) = 1
  places_of ptr = 1
  places_of (array len elem) = 1 + places_of elem
  places_of (struct packed fields) = 1 + places_in fields

  -- each field has one more than its type
  pub places_in : Trees → ℕ
  places_in end = 0
  places_in (more head tail) = 1 + places_of head + places_in tail
