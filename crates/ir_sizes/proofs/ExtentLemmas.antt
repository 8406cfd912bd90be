-- The extent of a tree, and that it is made from those of its parts.
use Rattle.std.proofs.Common.{◌≡◌, ◌∙◌, ℕ, ◌+◌, ◌≤◌, ◌<◌, Bool, true, false, nat_le, max, Option, None, Some, option_map, if◌then◌else◌, refl, sym, ap, arith}
use Rattle.std.specs.Option.{option_and_then}
use Rattle.std.proofs.lemmas.Bool.Decides.{nat_tests}
use Rattle.std.proofs.lemmas.Grind.{div_ceil_times}
use Rattle.ir_sizes.specs.Extents.{array_extent, field_extent, is_limited, joined, limited, no_fields, struct_extent}
use Rattle.ir_sizes.specs.Sized.{is_small, more_of, fields_by}
use Rattle.ir_sizes.specs.declared.extent.Extent.{Extent}
use Rattle.ir_syntax.specs.Types as text
use Rattle.ir_syntax.specs.Types.{TextTree, TextTrees}
use Rattle.ty_core.proofs.Alignments.{one_is_least}
use Rattle.ty_core.proofs.Ends.{ends_behind}
use Rattle.ty_core.specs.Places.{places_of, places_in}
use Rattle.ty_core.specs.Size.{end_of, align_of, rounded, greatest_align, greatest_size, greatest_size_in, layout_of, layout_behind, struct_align, size_limit}
use Rattle.ty_core.specs.Tree.{Tree, int, ptr, array, struct, Trees, end, more}

abbrev mutual
  -- how many levels arrays and structs stand inside each other
  pub levels_of : Tree → ℕ
  levels_of (int bits) = 0
  levels_of ptr = 0
  levels_of (array len elem) = 1 + levels_of elem
  levels_of (struct packed fields) = 1 + levels_in fields

  pub levels_in : Trees → ℕ
  levels_in end = 0
  levels_in (more head tail) = max (levels_of head) (levels_in tail)

abbrev pub extent_of : Tree → Extent
extent_of tree = record { layout = layout_of tree; places = places_of tree; levels = levels_of tree }

-- the extent of a type that has a size
abbrev pub kept : Option Tree → Option Extent
kept None = None
kept (Some tree) = if is_small (Some tree) then Some (extent_of tree) else None

pub kept-array : (len : ℕ) (elem : Option Tree) → kept (option_map (array len) elem) ≡ option_and_then (array_extent len) (kept elem)
kept-array len None = refl
kept-array len (Some tree) = grind (arith, nat_tests)

-- the extents of fields, where `inner` measures one
abbrev pub fields_with : (TextTree → Option Extent) → Bool → Extent → TextTrees → Option Extent
fields_with inner packed before text.end = Some before
fields_with inner packed before (text.more head tail) =
    option_and_then (λ field. option_and_then (λ next. fields_with inner packed next tail) (field_extent packed before field)) (inner head)

-- a struct of the fields before these, and of these, without a limit
abbrev whole : Bool → Extent → Trees → Extent
whole packed before fields = record {
  layout = layout_behind packed (end_of packed before.layout.size fields) (max before.layout.align (greatest_align fields));
  places = 1 + (before.places + places_in fields);
  levels = 1 + max before.levels (levels_in fields);
}

abbrev kept_whole : Bool → Extent → Option Trees → Option Extent
kept_whole packed before None = None
kept_whole packed before (Some fields) = if nat_le (greatest_size_in fields) size_limit then limited (whole packed before fields) else None

whole-more : (packed : Bool) (before : Extent) (head : Tree) (tail : Trees) → whole packed before (more head tail) ≡ whole packed (joined packed before (extent_of head)) tail
whole-more packed before head tail =
    let aligns : max before.layout.align (max (align_of head) (greatest_align tail)) ≡ max (max before.layout.align (align_of head)) (greatest_align tail) = omega arith in
    let places : before.places + (1 + places_of head + places_in tail) ≡ before.places + (1 + places_of head) + places_in tail = omega arith in
    let levels : max before.levels (max (levels_of head) (levels_in tail)) ≡ max (max before.levels (levels_of head)) (levels_in tail) = omega arith in
    λ i. record {
      layout = layout_behind packed (end_of packed before.layout.size (more head tail)) (aligns i);
      places = 1 + places i;
      levels = 1 + levels i;
    }

-- a field that is too big or has too many places makes the struct so
big_head : (packed : Bool) (before : Extent) (head : Tree) (rest : Option Trees) → is_small (Some head) ≡ false →
    kept_whole packed before (more_of (Some head) rest) ≡ None
big_head packed before head None big = refl
big_head packed before head (Some tail) big = grind (arith, nat_tests)

positive_align_of : (packed : Bool) (a : ℕ) → 0 < a → 0 < struct_align packed a
positive_align_of true a positive = omega arith
positive_align_of false a positive = positive

-- so do the fields up to one
big_next : (packed : Bool) (before : Extent) (head : Tree) (rest : Option Trees) → 0 < before.layout.align →
    is_limited (joined packed before (extent_of head)) ≡ false →
    kept_whole packed before (more_of (Some head) rest) ≡ None
big_next packed before head None positive big = refl
big_next packed before head (Some tail) positive big =
    let last : ℕ = end_of packed before.layout.size (more head tail) in
    let align : ℕ = struct_align packed (max before.layout.align (greatest_align (more head tail))) in
    let behind : (joined packed before (extent_of head)).layout.size ≤ last = ends_behind packed (joined packed before (extent_of head)).layout.size tail in
    let up : last ≤ rounded last align = (div_ceil_times last align (positive_align_of packed _ (omega arith))).0 in
    grind (arith, nat_tests)

-- fields that are not too big have the extent of the struct of them
fits_next : (packed : Bool) (before : Extent) (head : Tree) (rest : Option Trees) → is_small (Some head) ≡ true →
    kept_whole packed (joined packed before (extent_of head)) rest ≡ kept_whole packed before (more_of (Some head) rest)
fits_next packed before head None small = refl
fits_next packed before head (Some tail) small =
    let test : nat_le (greatest_size_in tail) size_limit ≡ nat_le (max (greatest_size head) (greatest_size_in tail)) size_limit = grind (arith, nat_tests) in
    λ i. if test i then limited (sym (whole-more packed before head tail) i) else None

kept-head : (packed : Bool) (before : Extent) (head : Tree) (rest : Option Trees) (go : Extent → Option Extent) →
    ((next : Extent) → 0 < next.layout.align → option_and_then (struct_extent packed) (go next) ≡ kept_whole packed next rest) → 0 < before.layout.align →
    option_and_then (struct_extent packed) (option_and_then (λ field. option_and_then go (field_extent packed before field)) (kept (Some head)))
    ≡ kept_whole packed before (more_of (Some head) rest)
kept-head packed before head rest go is positive = at_head (is_small (Some head)) refl
  where
    at_next : (fits : Bool) → is_small (Some head) ≡ true →
        is_limited (joined packed before (extent_of head)) ≡ fits →
        option_and_then (struct_extent packed) (option_and_then go (if fits then Some (joined packed before (extent_of head)) else None)) ≡ kept_whole packed before (more_of (Some head) rest)
    at_next false small big = sym (big_next packed before head rest positive big)
    at_next true small fits = is (joined packed before (extent_of head)) (omega (arith, positive)) ∙ fits_next packed before head rest small

    at_head : (small : Bool) → is_small (Some head) ≡ small →
        option_and_then (struct_extent packed) (option_and_then (λ field. option_and_then go (field_extent packed before field)) (if small then Some (extent_of head) else None))
        ≡ kept_whole packed before (more_of (Some head) rest)
    at_head false big = sym (big_head packed before head rest big)
    at_head true small = at_next _ small refl

kept-field : (packed : Bool) (before : Extent) (field : Option Tree) (rest : Option Trees) (go : Extent → Option Extent) →
    ((next : Extent) → 0 < next.layout.align → option_and_then (struct_extent packed) (go next) ≡ kept_whole packed next rest) → 0 < before.layout.align →
    option_and_then (struct_extent packed) (option_and_then (λ field. option_and_then go (field_extent packed before field)) (kept field))
    ≡ kept_whole packed before (more_of field rest)
kept-field packed before None rest go is positive = refl
kept-field packed before (Some head) rest go is positive = kept-head packed before head rest go is positive

kept-fields : (inner : TextTree → Option Tree) (packed : Bool) (before : Extent) (fields : TextTrees) → 0 < before.layout.align →
    option_and_then (struct_extent packed) (fields_with (λ ty. kept (inner ty)) packed before fields) ≡ kept_whole packed before (fields_by inner fields)
kept-fields inner packed before text.end positive =
    let align : before.layout.align ≡ max before.layout.align 1 = omega arith in
    let places : before.places ≡ before.places + 0 = omega arith in
    let levels : before.levels ≡ max before.levels 0 = omega arith in
    λ i. limited (record { layout = layout_behind packed before.layout.size (align i); places = 1 + places i; levels = 1 + levels i })
kept-fields inner packed before (text.more head tail) positive = kept-field packed before (inner head) (fields_by inner tail)
    (λ next. fields_with (λ ty. kept (inner ty)) packed next tail) (λ next positive. kept-fields inner packed next tail positive) positive

kept-whole : (packed : Bool) (fields : Option Trees) → kept_whole packed no_fields fields ≡ kept (option_map (struct packed) fields)
kept-whole packed None = refl
kept-whole packed (Some fields) =
    let align : max 1 (greatest_align fields) ≡ greatest_align fields = one_is_least fields in
    let places : 0 + places_in fields ≡ places_in fields = omega arith in
    let levels : max 0 (levels_in fields) ≡ levels_in fields = omega arith in
    let same : whole packed no_fields fields ≡ extent_of (struct packed fields) =
    λ i. record { layout = layout_behind packed (end_of packed 0 fields) (align i); places = 1 + places i; levels = 1 + levels i } in
    ap (λ e. if nat_le (greatest_size_in fields) size_limit then limited e else None) same ∙ grind (arith, nat_tests)

-- a struct has the extent that its fields make
pub kept-struct : (inner : TextTree → Option Tree) (packed : Bool) (fields : TextTrees) →
    kept (option_map (struct packed) (fields_by inner fields)) ≡ option_and_then (struct_extent packed) (fields_with (λ ty. kept (inner ty)) packed no_fields fields)
kept-struct inner packed fields = sym (kept-fields inner packed no_fields fields (omega arith) ∙ kept-whole packed (fields_by inner fields))
