-- The types that a module is about, with the names in them replaced.
use Rattle.std.specs.Prelude.{◌≡◌, ⊤, ℕ, ◌<◌, List}
use Rattle.std.specs.List.{filter_map}
use Rattle.ir_mentions.specs.Mentions.{all_mentions}
use Rattle.ir_sizes.specs.Sized.{sized_tree}
use Rattle.ir_syntax.specs.Types.{TextTree}
use Rattle.ir_syntax.specs.declared.module.Module.{Module}
use Rattle.ir_syntax.specs.declared.type_def.TypeDef.{TypeDef}
use Rattle.ty_core.specs.Plans.{all_places, capped, plan_limit}
use Rattle.ty_core.specs.Tree.{Tree}
use Rattle.ty_core.specs.declared.plan_end.PlanEnd.{PlanEnd}
use Rattle.ty_core.specs.declared.plan_end.PlanEnd.TheVariants.{TooMany, NoMemory}

-- those of these types that have a size, in order
abbrev pub planned : List TypeDef → List TextTree → List Tree
planned defs types = filter_map (sized_tree defs) types

-- those that a module writes, in the blocks that no path reaches too
abbrev pub planned_types : Module → List Tree
planned_types m = planned m.types (all_mentions m)

-- why a module has no plan of such types: too many places, with their number, or no memory
abbrev pub IsTypesEnd : List Tree → PlanEnd → Type 0
IsTypesEnd trees (TooMany places) = (plan_limit < all_places trees) × (places ≡ capped (all_places trees))
IsTypesEnd trees NoMemory = ⊤
