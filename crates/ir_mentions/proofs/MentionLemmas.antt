-- The places of the types that a module mentions.
use Rattle.std.proofs.Common.{◌≡◌, ◌∙◌, ℕ, ◌+◌, Bool, true, false, Option, None, Some, List, [], ◌∷◌, min, if◌then◌else◌, refl, sym, ap, arith}
use Rattle.std.specs.List.{list_any, sum_by}
use Rattle.std.proofs.lemmas.List.Sums.{sum_by-append}
use Rattle.ir_sizes.proofs.ExtentLemmas.{extent_of, kept}
use Rattle.ir_sizes.proofs.RoundLemmas.{measured-by_table}
use Rattle.ir_cfg.specs.Capped.{capped}
use Rattle.ir_syntax.specs.Definitions.{has_body}
use Rattle.ir_sizes.specs.Measured.{IsTable, known_by, measured}
use Rattle.ir_mentions.specs.Mentions.{needed_types, places_by, sized_places, type_places, written_types}
use Rattle.ir_mentions.specs.declared.which.Which.{Which}
use Rattle.ir_sizes.specs.Sized.{is_small, level_limit, replaced}
use Rattle.ir_sizes.specs.declared.extent.Extent.{Extent}
use Rattle.ir_sizes.specs.declared.table.Table.{Table}
use Rattle.ir_syntax.specs.Types.{TextTree, int, ptr}
use Rattle.ir_syntax.specs.declared.module.Module.{Module}
use Rattle.ir_syntax.specs.declared.type_def.TypeDef.{TypeDef}
use Rattle.ty_core.specs.Places.{places_of}
use Rattle.ty_core.specs.Tree.{Tree}

abbrev extent_places : Option Extent → ℕ
extent_places None = 0
extent_places (Some e) = e.places

places-kept : (tree : Option Tree) → extent_places (kept tree) ≡ sized_places tree
places-kept None = refl
places-kept (Some tree) = by (is_small (Some tree))
  where
    by : (small : Bool) → extent_places (if small then Some (extent_of tree) else None) ≡ (if small then places_of tree else 0)
    by true = refl
    by false = refl

-- the places of a type, by a table of all rounds
pub places-by_table : (defs : List TypeDef) (table : Table) (ty : TextTree) (extent : Option Extent) → IsTable defs level_limit table →
    extent ≡ measured (known_by table) level_limit ty → extent_places extent ≡ type_places defs ty
places-by_table defs table ty extent is value = ap extent_places (value ∙ measured-by_table defs table ty is) ∙ places-kept (replaced defs level_limit ty)

needed-places : (defs : List TypeDef) (some : Bool) → sum_by (type_places defs) (if some then int 64 ∷ int 1 ∷ ptr ∷ [] else []) ≡ (if some then 3 else 0)
unfolding replaced
needed-places defs true = refl
needed-places defs false = refl

capped-behind : (needed total : ℕ) → min (needed + capped total) 18446744073709551615 ≡ capped (needed + total)
capped-behind needed total = omega arith

-- the places of all mentions, where the types that functions need are counted apart
pub mentioned-is : (which : Which) (m : Module) (needed total all : ℕ) → needed ≡ (if list_any has_body m.functions then 3 else 0) →
    total ≡ capped (sum_by (type_places m.types) (written_types which m)) → all ≡ min (needed + total) 18446744073709551615 → all ≡ capped (places_by which m)
mentioned-is which m needed total all few written sum =
    sum
    ∙ (λ k. min (few k + written k) 18446744073709551615)
    ∙ capped-behind (if list_any has_body m.functions then 3 else 0) (sum_by (type_places m.types) (written_types which m))
    ∙ ap capped
    (ap (λ n. n + sum_by (type_places m.types) (written_types which m)) (sym (needed-places m.types (list_any has_body m.functions)))
    ∙ sym (sum_by-append (type_places m.types) (needed_types m) (written_types which m)))
