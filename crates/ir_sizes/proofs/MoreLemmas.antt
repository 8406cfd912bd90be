-- What is measured from more extents is what is measured from fewer, where that is anything.
use Rattle.std.proofs.Common.{◌≡◌, ◌∙◌, ℕ, zero, suc, Bool, Option, None, Some, List, [], ◌∷◌, map, refl, sym, ap, arith}
use Rattle.std.specs.Option.{option_and_then}
use Rattle.ir_sizes.proofs.LevelLemmas.{Knows, measured_fields-is}
use Rattle.ir_sizes.proofs.RoundLemmas.{knows-after}
use Rattle.ir_sizes.specs.Extents.{array_extent, field_extent, no_fields, struct_extent}
use Rattle.ir_sizes.specs.Measured.{body_extent, extent_at, extents_after, extents_by, measured, measured_fields, next_extents, one_below, place_of, within_levels}
use Rattle.ir_sizes.specs.Passes.{Below, whole_extents}
use Rattle.ir_sizes.specs.Sized.{level_limit}
use Rattle.ir_sizes.specs.declared.extent.Extent.{Extent}
use Rattle.ir_ident.specs.declared.name.Name.{Name}
use Rattle.ir_syntax.specs.Types.{TextTree, int, ptr, array, struct, named, TextTrees, end, more}
use Rattle.ir_syntax.specs.declared.type_def.TypeDef.{TypeDef}

-- what the first has, the second has
abbrev pub Implies : {A : Type 0} → Option A → Option A → Type 0
Implies {A} some all = (x : A) → some ≡ Some x → all ≡ Some x

-- each extent that the first knows, the second knows
abbrev pub Less : (Name → Option Extent) → (Name → Option Extent) → Type 0
Less known all = (name : Name) → Implies (known name) (all name)

pub then_more : {A B : Type 0} (f g : A → Option B) (a b : Option A) → Implies a b → ((x : A) → Implies (f x) (g x)) → Implies (option_and_then f a) (option_and_then g b)
then_more f g None b whole each x is = absurd (cc)
then_more f g (Some a) b whole each x is = ap (option_and_then g) (whole a refl) ∙ each a x is

within_more : (levels : ℕ) (a b : Option Extent) → Implies a b → Implies (within_levels levels a) (within_levels levels b)
within_more levels None b whole x is = absurd (cc)
within_more levels (Some a) b whole x is = ap (within_levels levels) (whole a refl) ∙ is

below_more : (levels : ℕ) (f g : ℕ → Option Extent) → ((below : ℕ) → Implies (f below) (g below)) → Implies (one_below levels f) (one_below levels g)
below_more zero f g each x is = absurd (cc)
below_more (suc levels) f g each x is = each levels x is

mutual
  measured_more : (known all : Name → Option Extent) → Less known all → (levels : ℕ) (ty : TextTree) → Implies (measured known levels ty) (measured all levels ty)
  measured_more known all less levels (int bits) x is = is
  measured_more known all less levels ptr x is = is
  measured_more known all less levels (array len elem) x is =
      below_more levels (λ below. option_and_then (array_extent len) (measured known below elem)) (λ below. option_and_then (array_extent len) (measured all below elem))
      (λ below. then_more (array_extent len) (array_extent len) (measured known below elem) (measured all below elem)
      (measured_more known all less below elem) (λ e x is. is)) x is
  measured_more known all less levels (struct packed fields) x is =
      below_more levels
      (λ below. option_and_then (struct_extent packed) (measured_fields known below packed no_fields fields))
      (λ below. option_and_then (struct_extent packed) (measured_fields all below packed no_fields fields))
      (λ below. then_more (struct_extent packed) (struct_extent packed) (measured_fields known below packed no_fields fields) (measured_fields all below packed no_fields fields)
      (fields_more known all less below packed no_fields fields) (λ e x is. is)) x is
  measured_more known all less levels (named place) x is = within_more levels (known place.name) (all place.name) (less place.name) x is

  fields_more : (known all : Name → Option Extent) → Less known all → (levels : ℕ) (packed : Bool) (before : Extent) (fields : TextTrees) →
      Implies (measured_fields known levels packed before fields) (measured_fields all levels packed before fields)
  fields_more known all less levels packed before end x is = is
  fields_more known all less levels packed before (more head tail) x is =
      then_more
      (λ field. option_and_then (λ next. measured_fields known levels packed next tail) (field_extent packed before field))
      (λ field. option_and_then (λ next. measured_fields all levels packed next tail) (field_extent packed before field))
      (measured known levels head) (measured all levels head) (measured_more known all less levels head)
      (λ field. then_more (λ next. measured_fields known levels packed next tail) (λ next. measured_fields all levels packed next tail)
      (field_extent packed before field) (field_extent packed before field) (λ x is. is)
      (λ next. fields_more known all less levels packed next tail)) x is

pub body_more : (known all : Name → Option Extent) → Less known all → (body : TextTree) → Implies (body_extent known body) (body_extent all body)
body_more known all less (struct packed fields) x is = measured_more known all less level_limit (struct packed fields) x is
body_more known all less (int bits) x is = absurd (cc)
body_more known all less ptr x is = absurd (cc)
body_more known all less (array len elem) x is = absurd (cc)
body_more known all less (named place) x is = absurd (cc)

pub names_more : (defs : List TypeDef) (some all : List (Option Extent)) → Below some all → Less (extents_by defs some) (extents_by defs all)
names_more defs some all below name =
    then_more (extent_at some) (extent_at all) (place_of defs name) (place_of defs name) (λ x is. is) below

mapped_more : (f g : TypeDef → Option Extent) → ((d : TypeDef) → Implies (f d) (g d)) → (defs : List TypeDef) → Below (map f defs) (map g defs)
mapped_more f g each [] place x is = absurd (cc)
mapped_more f g each (d ∷ defs) zero x is = each d x is
mapped_more f g each (d ∷ defs) (suc place) x is = mapped_more f g each defs place x is

-- one more round from more extents
pub next_more : (defs : List TypeDef) (some all : List (Option Extent)) → Below some all →
    Below (next_extents defs (extents_by defs some)) (next_extents defs (extents_by defs all))
next_more defs some all below =
    mapped_more (λ d. body_extent (extents_by defs some) d.body) (λ d. body_extent (extents_by defs all) d.body)
    (λ d. body_more (extents_by defs some) (extents_by defs all) (names_more defs some all below) d.body) defs

body_same : (defs : List TypeDef) (known other : Name → Option Extent) → Knows defs known 63 → Knows defs other 63 → (body : TextTree) →
    body_extent known body ≡ body_extent other body
body_same defs known other knows also (struct packed fields) =
    ap (option_and_then (struct_extent packed))
    (measured_fields-is defs known packed no_fields fields 63 knows ∙ sym (measured_fields-is defs other packed no_fields fields 63 also))
body_same defs known other knows also (int bits) = refl
body_same defs known other knows also ptr = refl
body_same defs known other knows also (array len elem) = refl
body_same defs known other knows also (named place) = refl

mapped_same : (f g : TypeDef → Option Extent) → ((d : TypeDef) → f d ≡ g d) → (defs : List TypeDef) → map f defs ≡ map g defs
mapped_same f g each [] = refl
mapped_same f g each (d ∷ defs) = λ i. each d i ∷ mapped_same f g each defs i

-- after the last round no round finds more
pub nothing_more : (defs : List TypeDef) → next_extents defs (extents_by defs (whole_extents defs)) ≡ whole_extents defs
unfolding extents_after
nothing_more defs =
    mapped_same (λ d. body_extent (extents_by defs (whole_extents defs)) d.body) (λ d. body_extent (extents_by defs (extents_after defs 63)) d.body)
    (λ d. body_same defs (extents_by defs (whole_extents defs)) (extents_by defs (extents_after defs 63))
    (λ levels few. knows-after defs level_limit (omega arith) levels (omega (arith, few))) (knows-after defs 63 (omega arith)) d.body) defs
