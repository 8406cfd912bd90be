-- Sizes and alignments of types in bytes (LangRef, "Data Layout"), by recursion on trees.
use Rattle.std.specs.Prelude.{ℕ, ◌+◌, ◌*◌, ◌<◌, ◌≤◌, Bool, nat_le, if◌then◌else◌, max}
use Rattle.std.specs.Int.{div_ceil}
use Rattle.ty_core.specs.declared.extent.Layout.{Layout}
use Rattle.ty_core.specs.Tree.{Tree, int, ptr, array, struct, Trees, end, more}

-- the greatest size that a type may have
abbrev pub size_limit : ℕ
size_limit = 4294967295

-- the least multiple of `align` that is `at` or more
abbrev pub rounded : ℕ → ℕ → ℕ
rounded at align = div_ceil at align * align

-- the least number of bytes that hold this many bits
abbrev pub bytes_of : ℕ → ℕ
bytes_of bits = div_ceil bits 8

-- the least power of two that is `size` or more, for a size of up to 32
abbrev pub least_power : ℕ → ℕ
least_power size =
    if nat_le size 1 then 1 else
    if nat_le size 2 then 2 else
    if nat_le size 4 then 4 else
    if nat_le size 8 then 8 else
    if nat_le size 16 then 16 else 32

-- an alignment that a type may have is from 1 to 32
abbrev pub IsAlign : ℕ → Type 0
IsAlign align = (0 < align) × (align ≤ 32)

-- the alignment of a struct of which this is the greatest alignment of a field
abbrev pub struct_align : Bool → ℕ → ℕ
struct_align packed greatest = if packed then 1 else greatest

abbrev mutual
  -- the alignment of a type: of an array its element's, of a struct the greatest of its fields', 1 if it is packed
  pub align_of : Tree → ℕ
  align_of (int bits) = least_power (bytes_of bits)
  align_of ptr = 8
  align_of (array len elem) = align_of elem
  align_of (struct packed fields) = struct_align packed (greatest_align fields)

  -- the greatest alignment of these types, 1 where there are none
  pub greatest_align : Trees → ℕ
  greatest_align end = 1
  greatest_align (more head tail) = max (align_of head) (greatest_align tail)

-- where a field of this alignment begins behind a field that ends at `at`
abbrev pub begin_at : Bool → ℕ → ℕ → ℕ
begin_at packed at align = if packed then at else rounded at align

-- the layout of a struct whose fields end at `at` and have this greatest alignment
abbrev pub layout_behind : Bool → ℕ → ℕ → Layout
layout_behind packed at greatest = record { size = rounded at (struct_align packed greatest); align = struct_align packed greatest }

abbrev mutual
  -- the size of a type: an element takes its stride, as a field does, and a struct ends at a multiple of its alignment
  pub size_of : Tree → ℕ
  size_of (int bits) = bytes_of bits
  size_of ptr = 8
  size_of (array len elem) = len * rounded (size_of elem) (align_of elem)
  size_of (struct packed fields) = rounded (end_of packed 0 fields) (struct_align packed (greatest_align fields))

  -- where the last of these fields ends, the first of them behind a field that ends at `at`
  pub end_of : Bool → ℕ → Trees → ℕ
  end_of packed at end = at
  end_of packed at (more head tail) =
      end_of packed (begin_at packed at (align_of head) + rounded (size_of head) (align_of head)) tail

abbrev mutual
  -- the greatest of the sizes of a type and of the types in it
  pub greatest_size : Tree → ℕ
  greatest_size (int bits) = size_of (int bits)
  greatest_size ptr = size_of ptr
  greatest_size (array len elem) = max (size_of (array len elem)) (greatest_size elem)
  greatest_size (struct packed fields) = max (size_of (struct packed fields)) (greatest_size_in fields)

  -- the greatest of the sizes of these types and of the types in them
  pub greatest_size_in : Trees → ℕ
  greatest_size_in end = 0
  greatest_size_in (more head tail) = max (greatest_size head) (greatest_size_in tail)

-- the size and the alignment of a type
abbrev pub layout_of : Tree → Layout
layout_of tree = record { size = size_of tree; align = align_of tree }
