-- The layouts of types, by a table of their extents.
use Rattle.std.proofs.Common.{◌≡◌, ◌∙◌, Bool, true, false, Option, None, Some, option_map, List, if◌then◌else◌, refl, ap}
use Rattle.ir_sizes.proofs.ExtentLemmas.{extent_of, kept}
use Rattle.ir_sizes.proofs.RoundLemmas.{measured-by_table}
use Rattle.ir_sizes.specs.Measured.{IsTable, known_by, measured}
use Rattle.ir_sizes.specs.Sized.{is_small, layout_in, level_limit, replaced, small_tree}
use Rattle.ir_sizes.specs.declared.extent.Extent.{Extent}
use Rattle.ir_sizes.specs.declared.table.Table.{Table}
use Rattle.ir_syntax.specs.Types.{TextTree}
use Rattle.ir_syntax.specs.declared.type_def.TypeDef.{TypeDef}
use Rattle.ty_core.specs.Size.{layout_of}
use Rattle.ty_core.specs.Tree.{Tree}

layout-kept : (tree : Option Tree) → option_map (λ e. e.layout) (kept tree) ≡ option_map layout_of (small_tree tree)
layout-kept None = refl
layout-kept (Some tree) = by (is_small (Some tree))
  where
    by : (small : Bool) → option_map (λ e. e.layout) (if small then Some (extent_of tree) else None) ≡ option_map layout_of (if small then Some tree else None)
    by true = refl
    by false = refl

-- the layout of a type, by a table of all rounds
pub layout_by_table : (defs : List TypeDef) (table : Table) (ty : TextTree) (extent : Option Extent) → IsTable defs level_limit table →
    extent ≡ measured (known_by table) level_limit ty → option_map (λ e. e.layout) extent ≡ layout_in defs ty
layout_by_table defs table ty extent is value =
    ap (option_map (λ e. e.layout)) (value ∙ measured-by_table defs table ty is) ∙ layout-kept (replaced defs level_limit ty)
