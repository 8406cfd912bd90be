-- Named types, measured in rounds.
use Rattle.std.proofs.Common.{◌≡◌, ◌∙◌, ℕ, zero, suc, ◌≤◌, ◌<◌, Bool, true, false, Option, None, Some, is_some, option_map, List, [], ◌∷◌, if◌then◌else◌, refl, sym, ap, arith}
use Rattle.std.specs.Option.{option_and_then}
use Rattle.ir_sizes.proofs.ExtentLemmas.{extent_of, kept, kept-struct}
use Rattle.ir_sizes.proofs.LevelLemmas.{Knows, measured-is, measured_fields-is, measured_fields-within, no_struct}
use Rattle.ir_sizes.specs.Extents.{no_fields, struct_extent}
use Rattle.ir_sizes.specs.Measured.{IsTable, body_extent, extent_at, extents_after, extents_by, known_by, measured, measured_fields, next_extents, place_of, within_levels}
use Rattle.ir_sizes.specs.Sized.{body_of, is_sized, is_small, level_limit, named_by, replaced}
use Rattle.ir_sizes.specs.declared.extent.Extent.{Extent}
use Rattle.ir_sizes.specs.declared.table.Table.{Table}
use Rattle.ir_ident.specs.Names.{same_name}
use Rattle.ir_syntax.specs.Types.{TextTree, struct}
use Rattle.ir_ident.specs.declared.name.Name.{Name}
use Rattle.ir_syntax.specs.declared.type_def.TypeDef.{TypeDef}
use Rattle.ty_core.specs.Tree.{Tree}

-- the extent of what a name stands for
abbrev named_extent : (Name → Option Extent) → Option TextTree → Option Extent
named_extent known None = None
named_extent known (Some body) = body_extent known body

by-place : (row : Option Extent) (rows : List (Option Extent)) (place : Option ℕ) → option_and_then (extent_at (row ∷ rows)) (option_map (λ p. suc p) place) ≡ option_and_then (extent_at rows) place
by-place row rows None = refl
by-place row rows (Some place) = refl

extents_by-next : (defs : List TypeDef) (known : Name → Option Extent) (name : Name) → extents_by defs (next_extents defs known) name ≡ named_extent known (body_of defs name)
extents_by-next [] known name = refl
extents_by-next (d ∷ defs) known name = by (same_name d.name name) (by-place _ _ (place_of defs name) ∙ extents_by-next defs known name)
  where
    by : (same : Bool) →
        option_and_then (extent_at (next_extents (d ∷ defs) known)) (option_map (λ p. suc p) (place_of defs name)) ≡ named_extent known (body_of defs name) →
        option_and_then (extent_at (next_extents (d ∷ defs) known)) (if same then Some 0 else option_map (λ p. suc p) (place_of defs name))
        ≡ named_extent known (if same then Some d.body else body_of defs name)
    by true rest = refl
    by false rest = rest

-- no named type has no levels
no_level : (known : Name → Option Extent) (body : Option TextTree) → within_levels zero (named_extent known body) ≡ None
no_level known None = refl
no_level known (Some (struct packed fields)) = no_struct packed (measured_fields known 63 packed no_fields fields)
no_level known (Some other) = refl

one_level : (defs : List TypeDef) (known : Name → Option Extent) (levels : ℕ) (body : Option TextTree) → levels < level_limit → Knows defs known levels →
    within_levels (suc levels) (named_extent known body) ≡ kept (named_by (replaced defs levels) body)
one_level defs known levels None few knows = refl
one_level defs known levels (Some (struct packed fields)) few knows =
    measured_fields-within known packed no_fields fields levels 63 (omega (arith, few)) (omega arith)
    ∙ ap (option_and_then (struct_extent packed)) (measured_fields-is defs known packed no_fields fields levels knows)
    ∙ sym (kept-struct (replaced defs levels) packed fields)
one_level defs known levels (Some other) few knows = refl

-- one more round knows one more level
knows-next : (defs : List TypeDef) (known : Name → Option Extent) (rounds : ℕ) → rounds < level_limit → Knows defs known rounds →
    Knows defs (extents_by defs (next_extents defs known)) (suc rounds)
unfolding replaced
knows-next defs known rounds few knows zero below place = ap (within_levels zero) (extents_by-next defs known place.name) ∙ no_level known (body_of defs place.name)
knows-next defs known rounds few knows (suc levels) below place =
    ap (within_levels (suc levels)) (extents_by-next defs known place.name)
    ∙ one_level defs known levels (body_of defs place.name) (omega (arith, few, below)) (λ l low. knows l (omega (arith, low, below)))

nothing-known : (place : Option ℕ) → option_and_then (extent_at []) place ≡ None
nothing-known None = refl
nothing-known (Some place) = refl

pub knows-after : (defs : List TypeDef) (rounds : ℕ) → rounds ≤ level_limit → Knows defs (extents_by defs (extents_after defs rounds)) rounds
unfolding replaced extents_after
knows-after defs zero few zero below place = ap (within_levels zero) (nothing-known (place_of defs place.name))
knows-after defs zero few (suc levels) below place = absurd (omega (arith, below))
knows-after defs (suc rounds) few levels below place =
    knows-next defs (extents_by defs (extents_after defs rounds)) rounds (omega (arith, few)) (knows-after defs rounds (omega (arith, few))) levels below place

is_some-kept : (tree : Option Tree) → is_some (kept tree) ≡ is_small tree
is_some-kept None = refl
is_some-kept (Some tree) = by (is_small (Some tree))
  where
    by : (small : Bool) → is_some (if small then Some (extent_of tree) else None) ≡ small
    by true = refl
    by false = refl

-- a type has a size if it has an extent by the last round
pub is_some-measured : (defs : List TypeDef) (ty : TextTree) → is_some (measured (extents_by defs (extents_after defs level_limit)) level_limit ty) ≡ is_sized defs ty
is_some-measured defs ty =
    ap is_some (measured-is defs (extents_by defs (extents_after defs level_limit)) ty level_limit (knows-after defs level_limit (omega arith)))
    ∙ is_some-kept (replaced defs level_limit ty)

-- a table knows what it knows by the places of the definitions
known_by-is : (defs : List TypeDef) (rounds : ℕ) (table : Table) → IsTable defs rounds table → known_by table ≡ extents_by defs (extents_after defs rounds)
known_by-is defs rounds table is = λ k name. option_and_then (extent_at (is.0 k)) (is.1 name k)

-- a type has the extent of the tree that it stands for, by a table of all rounds
pub measured-by_table : (defs : List TypeDef) (table : Table) (ty : TextTree) → IsTable defs level_limit table → measured (known_by table) level_limit ty ≡ kept (replaced defs level_limit ty)
measured-by_table defs table ty is =
    ap (λ known. measured known level_limit ty) (known_by-is defs level_limit table is)
    ∙ measured-is defs (extents_by defs (extents_after defs level_limit)) ty level_limit (knows-after defs level_limit (omega arith))

-- whether a type has a size, by a table of all rounds
pub is_some-by_table : (defs : List TypeDef) (table : Table) (ty : TextTree) → IsTable defs level_limit table → is_some (measured (known_by table) level_limit ty) ≡ is_sized defs ty
is_some-by_table defs table ty is = ap (λ known. is_some (measured known level_limit ty)) (known_by-is defs level_limit table is) ∙ is_some-measured defs ty
