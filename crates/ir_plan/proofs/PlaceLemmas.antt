-- The places of the types that a module is about.
use Rattle.std.proofs.Common.{◌≡◌, ◌∙◌, ℕ, ◌+◌, ◌<◌, Bool, true, false, Option, None, Some, List, [], ◌∷◌, if◌then◌else◌, refl, sym, ap, arith}
use Rattle.std.specs.List.{cons_option, sum_by}
use Rattle.std.proofs.lemmas.List.Sums.{sum_by-cons}
use Rattle.ir_mentions.specs.Mentions.{mentioned_places, mentions, places_by, all_mentions, sized_places, type_places}
use Rattle.ir_mentions.specs.declared.which.Which.TheVariants.{Every}
use Rattle.ir_plan.specs.Planned.{planned, planned_types}
use Rattle.ir_sizes.specs.Sized.{is_small, level_limit, replaced, small_tree}
use Rattle.ir_syntax.specs.Types.{TextTree}
use Rattle.ir_syntax.specs.declared.module.Module.{Module}
use Rattle.ir_syntax.specs.declared.type_def.TypeDef.{TypeDef}
use Rattle.ty_core.specs.Places.{places_of}
use Rattle.ty_core.specs.Plans.{all_places, capped, plan_limit}
use Rattle.ty_core.specs.Tree.{Tree}

-- a type that has no size has no places, and is left out
one_more : (tree : Option Tree) (trees : List Tree) → all_places (cons_option (small_tree tree) trees) ≡ sized_places tree + all_places trees
one_more None trees = omega arith
one_more (Some tree) trees = by (is_small (Some tree))
  where
    by : (small : Bool) → all_places (cons_option (if small then Some tree else None) trees) ≡ (if small then places_of tree else 0) + all_places trees
    by true = sum_by-cons places_of tree trees
    by false = omega arith

pub all_places-planned : (defs : List TypeDef) (types : List TextTree) → all_places (planned defs types) ≡ sum_by (type_places defs) types
all_places-planned defs [] = refl
all_places-planned defs (ty ∷ types) =
    one_more (replaced defs level_limit ty) (planned defs types)
    ∙ ap (λ n. type_places defs ty + n) (all_places-planned defs types)
    ∙ sym (sum_by-cons (type_places defs) ty types)

all_places-planned_types : (m : Module) → all_places (planned_types m) ≡ places_by Every m
all_places-planned_types m = all_places-planned m.types (all_mentions m)

-- where the counted places are too many, so are those of the types
pub too_many : (m : Module) (places : ℕ) → places ≡ capped (places_by Every m) → plan_limit < places →
    (plan_limit < all_places (planned_types m)) × (places ≡ capped (all_places (planned_types m)))
too_many m places is above =
    let same : places ≡ capped (all_places (planned_types m)) = is ∙ ap capped (sym (all_places-planned_types m)) in
    (omega (arith, same, above), same)

pub all_places-mentions : (m : Module) → all_places (planned m.types (mentions m)) ≡ mentioned_places m
all_places-mentions m = all_places-planned m.types (mentions m)
