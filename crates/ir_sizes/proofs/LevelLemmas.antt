-- Types measured by levels.
use Rattle.std.proofs.Common.{◌≡◌, ◌∙◌, ℕ, zero, suc, ◌≤◌, ◌<◌, Bool, true, false, nat_le, Option, None, Some, List, if◌then◌else◌, refl, sym, ap, arith}
use Rattle.std.specs.Option.{option_and_then}
use Rattle.std.proofs.lemmas.Bool.{leb-true, leb-false}
use Rattle.std.proofs.lemmas.Bool.Decides.{nat_tests}
use Rattle.ir_sizes.proofs.ExtentLemmas.{fields_with, kept, kept-array, kept-struct}
use Rattle.ir_sizes.specs.Extents.{array_extent, field_extent, is_limited, joined, limited, integer_extent, no_fields, pointer_extent, struct_extent}
use Rattle.ir_sizes.specs.Measured.{measured, measured_fields, within_levels}
use Rattle.ir_sizes.specs.Sized.{replaced}
use Rattle.ir_sizes.specs.declared.extent.Extent.{Extent}
use Rattle.ir_syntax.specs.Types.{TextTree, int, ptr, array, struct, named, TextTrees, end, more}
use Rattle.ir_ident.specs.declared.name.Name.{Name}
use Rattle.ir_ident.specs.declared.name.NameUse.{NameUse}
use Rattle.ir_syntax.specs.declared.type_def.TypeDef.{TypeDef}

-- a table has the extents of the named types of at most so many levels
abbrev pub Knows : List TypeDef → (Name → Option Extent) → ℕ → Type 0
Knows defs known most = (levels : ℕ) → levels ≤ most → (place : NameUse) → within_levels levels (known place.name) ≡ kept (replaced defs levels (named place))

fewer : (defs : List TypeDef) (known : Name → Option Extent) (most : ℕ) → Knows defs known (suc most) → Knows defs known most
fewer defs known most knows levels few = knows levels (omega (arith, few))

mutual
  unfolding replaced

  -- a type measured from such a table has the extent of the tree that it stands for
  pub measured-is : (defs : List TypeDef) (known : Name → Option Extent) (ty : TextTree) (levels : ℕ) → Knows defs known levels → measured known levels ty ≡ kept (replaced defs levels ty)
  measured-is defs known (int bits) zero knows = refl
  measured-is defs known (int bits) (suc levels) knows = refl
  measured-is defs known ptr zero knows = refl
  measured-is defs known ptr (suc levels) knows = refl
  measured-is defs known (array len elem) zero knows = refl
  measured-is defs known (array len elem) (suc levels) knows =
      ap (option_and_then (array_extent len)) (measured-is defs known elem levels (fewer defs known levels knows)) ∙ sym (kept-array len (replaced defs levels elem))
  measured-is defs known (struct packed fields) zero knows = refl
  measured-is defs known (struct packed fields) (suc levels) knows =
      ap (option_and_then (struct_extent packed)) (measured_fields-is defs known packed no_fields fields levels (fewer defs known levels knows))
      ∙ sym (kept-struct (replaced defs levels) packed fields)
  measured-is defs known (named place) zero knows = knows zero (omega arith) place
  measured-is defs known (named place) (suc levels) knows = knows (suc levels) (omega arith) place

  pub measured_fields-is : (defs : List TypeDef) (known : Name → Option Extent) (packed : Bool) (before : Extent) (fields : TextTrees) (levels : ℕ) → Knows defs known levels →
      measured_fields known levels packed before fields ≡ fields_with (λ ty. kept (replaced defs levels ty)) packed before fields
  measured_fields-is defs known packed before end levels knows = refl
  measured_fields-is defs known packed before (more head tail) levels knows = λ i.
      option_and_then
      (λ field. option_and_then (λ next. measured_fields-is defs known packed next tail levels knows i) (field_extent packed before field))
      (measured-is defs known head levels knows i)

-- fewer levels, at each way to make an extent
within-scalar : (levels : ℕ) (e : Extent) → e.levels ≡ 0 → within_levels levels (limited e) ≡ limited e
within-scalar levels e none = grind (arith, nat_tests)

within-named : (levels most : ℕ) (e : Option Extent) → levels ≤ most → within_levels levels (within_levels most e) ≡ within_levels levels e
within-named levels most None below = refl
within-named levels most (Some e) below = grind (arith, nat_tests)

within-array : (levels len : ℕ) (elem : Option Extent) → within_levels (suc levels) (option_and_then (array_extent len) elem) ≡ option_and_then (array_extent len) (within_levels levels elem)
within-array levels len None = refl
within-array levels len (Some elem) = grind (arith, nat_tests)

no_array : (len : ℕ) (elem : Option Extent) → within_levels zero (option_and_then (array_extent len) elem) ≡ None
no_array len None = refl
no_array len (Some elem) = grind (arith, nat_tests)

pub no_struct : (packed : Bool) (fields : Option Extent) → within_levels zero (option_and_then (struct_extent packed) fields) ≡ None
no_struct packed None = refl
no_struct packed (Some fields) = grind (arith, nat_tests)

within-struct : (levels : ℕ) (packed : Bool) (fields : Extent) → fields.levels ≤ levels → within_levels (suc levels) (struct_extent packed fields) ≡ struct_extent packed fields
within-struct levels packed fields flat = grind (arith, nat_tests)

no_struct_above : (levels : ℕ) (packed : Bool) (fields : Extent) → levels < fields.levels → within_levels (suc levels) (struct_extent packed fields) ≡ None
no_struct_above levels packed fields deep = grind (arith, nat_tests)

-- a struct of at most one level more than so many, of the fields that this makes of those up to one
abbrev struct_within : ℕ → Bool → (Extent → Option Extent) → Option Extent → Option Extent
struct_within levels packed go next = within_levels (suc levels) (option_and_then (struct_extent packed) (option_and_then go next))

-- fields that have more levels lead to no such struct
above-field : (levels : ℕ) (packed : Bool) (before : Extent) (field : Option Extent) (go : Extent → Option Extent) →
    ((next : Extent) → levels < next.levels → struct_within levels packed go (Some next) ≡ None) → levels < before.levels →
    struct_within levels packed (λ f. option_and_then go (field_extent packed before f)) field ≡ None
above-field levels packed before None go above deep = refl
above-field levels packed before (Some field) go above deep = by (is_limited (joined packed before field))
  where
    by : (fits : Bool) → struct_within levels packed go (if fits then Some (joined packed before field) else None) ≡ None
    by true = above (joined packed before field) (omega (arith, deep))
    by false = refl

within-field : (levels : ℕ) (packed : Bool) (before : Extent) (field : Option Extent) (go few : Extent → Option Extent) →
    ((next : Extent) → levels < next.levels → struct_within levels packed go (Some next) ≡ None) →
    ((next : Extent) → next.levels ≤ levels → struct_within levels packed go (Some next) ≡ option_and_then (struct_extent packed) (few next)) → before.levels ≤ levels →
    struct_within levels packed (λ f. option_and_then go (field_extent packed before f)) field
    ≡ option_and_then (struct_extent packed) (option_and_then (λ f. option_and_then few (field_extent packed before f)) (within_levels levels field))
within-field levels packed before None go few above same flat = refl
within-field levels packed before (Some field) go few above same flat = by (nat_le field.levels levels) refl
  where
    at_few : (fits : Bool) → field.levels ≤ levels → struct_within levels packed go (if fits then Some (joined packed before field) else None)
        ≡ option_and_then (struct_extent packed) (option_and_then few (if fits then Some (joined packed before field) else None))
    at_few true low = same (joined packed before field) (omega (arith, low, flat))
    at_few false low = refl

    at_many : (fits : Bool) → levels < field.levels → struct_within levels packed go (if fits then Some (joined packed before field) else None) ≡ None
    at_many true high = above (joined packed before field) (omega (arith, high))
    at_many false high = refl

    by : (low : Bool) → nat_le field.levels levels ≡ low →
        struct_within levels packed go (field_extent packed before field)
        ≡ option_and_then (struct_extent packed) (option_and_then (λ f. option_and_then few (field_extent packed before f)) (if low then Some field else None))
    by true low = at_few (is_limited (joined packed before field)) (leb-true _ _ low)
    by false low = at_many (is_limited (joined packed before field)) (leb-false _ _ low)

-- a struct of more levels than so many has none within them
above-fields : (known : Name → Option Extent) (packed : Bool) (before : Extent) (fields : TextTrees) (levels most : ℕ) → levels < before.levels →
    struct_within levels packed (λ b. measured_fields known most packed b fields) (Some before) ≡ None
above-fields known packed before end levels most deep = no_struct_above levels packed before deep
above-fields known packed before (more head tail) levels most deep =
    above-field levels packed before (measured known most head) (λ b. measured_fields known most packed b tail)
    (λ next deep. above-fields known packed next tail levels most deep) deep

mutual
  -- a type measured by fewer levels is the same, or has none
  pub measured-within : (known : Name → Option Extent) (ty : TextTree) (levels most : ℕ) → levels ≤ most →
      within_levels levels (measured known most ty) ≡ measured known levels ty
  measured-within known (int bits) levels most below = within-scalar levels (integer_extent bits) refl
  measured-within known ptr levels most below = within-scalar levels pointer_extent refl
  measured-within known (array len elem) zero zero below = refl
  measured-within known (array len elem) zero (suc most) below = no_array len (measured known most elem)
  measured-within known (array len elem) (suc levels) zero below = absurd (omega (arith, below))
  measured-within known (array len elem) (suc levels) (suc most) below =
      within-array levels len (measured known most elem) ∙ ap (option_and_then (array_extent len)) (measured-within known elem levels most (omega (arith, below)))
  measured-within known (struct packed fields) zero zero below = refl
  measured-within known (struct packed fields) zero (suc most) below = no_struct packed (measured_fields known most packed no_fields fields)
  measured-within known (struct packed fields) (suc levels) zero below = absurd (omega (arith, below))
  measured-within known (struct packed fields) (suc levels) (suc most) below =
      measured_fields-within known packed no_fields fields levels most (omega (arith, below)) (omega arith)
  measured-within known (named place) levels most below = within-named levels most (known place.name) below

  pub measured_fields-within : (known : Name → Option Extent) (packed : Bool) (before : Extent) (fields : TextTrees) (levels most : ℕ) → levels ≤ most → before.levels ≤ levels →
      struct_within levels packed (λ b. measured_fields known most packed b fields) (Some before) ≡ option_and_then (struct_extent packed) (measured_fields known levels packed before fields)
  measured_fields-within known packed before end levels most below flat = within-struct levels packed before flat
  measured_fields-within known packed before (more head tail) levels most below flat =
      within-field levels packed before (measured known most head) (λ b. measured_fields known most packed b tail) (λ b. measured_fields known levels packed b tail)
      (λ next deep. above-fields known packed next tail levels most deep)
      (λ next flat. measured_fields-within known packed next tail levels most below flat) flat
      ∙ ap
      (λ field. option_and_then (struct_extent packed) (option_and_then (λ f. option_and_then (λ b. measured_fields known levels packed b tail) (field_extent packed before f)) field))
      (measured-within known head levels most below)
