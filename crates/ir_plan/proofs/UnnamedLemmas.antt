-- A module that keeps the rules is about the types that were counted: nothing is lost of them, and none is added.
use Rattle.std.proofs.Common.{◌≡◌, ◌∙◌, Bool, true, false, List, [], ◌∷◌, ◌++◌, map, if◌then◌else◌, refl, sym, ap}
use Rattle.std.specs.List.{list_any}
use Rattle.std.proofs.lemmas.List.{map-append}
use Rattle.ir_mentions.specs.Mentions.{all_mentions, mentioned_places, mentions, needed_types, written_types}
use Rattle.ir_mentions.specs.declared.which.Which.TheVariants.{Every}
use Rattle.ir_plan.proofs.PlaceLemmas.{all_places-mentions}
use Rattle.ir_plan.proofs.PrunedLemmas.{all_mentions-pruned}
use Rattle.ir_plan.proofs.ReplacedLemmas.{planned-without_names}
use Rattle.ir_plan.proofs.RewrittenLemmas.{any_defined-rewritten, written_types-rewritten}
use Rattle.ir_plan.specs.Planned.{planned, planned_types}
use Rattle.ir_prune.specs.Pruned.{pruned}
use Rattle.ir_sizes.specs.Sized.{replaced}
use Rattle.ir_syntax.specs.Definitions.{has_body}
use Rattle.ir_syntax.specs.Types.{TextTree, int, ptr}
use Rattle.ir_syntax.specs.declared.module.Module.{Module}
use Rattle.ir_syntax.specs.declared.type_def.TypeDef.{TypeDef}
use Rattle.ir_unname.specs.Unnamed.{byte_offset, unnamed, without_names}
use Rattle.ty_core.specs.Plans.{all_places}

abbrev needed_if : Bool → List TextTree
needed_if some = if some then int 64 ∷ int 1 ∷ ptr ∷ [] else []

-- scalars have no names
needed-without_names : (defs : List TypeDef) (some : Bool) → needed_if some ≡ map (without_names defs) (needed_if some)
unfolding replaced
needed-without_names defs true = refl
needed-without_names defs false = refl

pub all_mentions-unnamed : (m : Module) → all_mentions (unnamed m) ≡ map (without_names m.types) (all_mentions m)
all_mentions-unnamed m =
    let ty_of = without_names m.types in
    let gep_of = byte_offset m.types in
    ap (λ some. needed_if some ++ written_types Every (unnamed m)) (any_defined-rewritten ty_of gep_of m.functions)
    ∙ (λ k. needed-without_names m.types (list_any has_body m.functions) k ++ written_types-rewritten ty_of gep_of m k)
    ∙ sym (map-append ty_of (needed_types m) (written_types Every m))

pub planned_types-unnamed : (m : Module) → planned_types (unnamed m) ≡ planned_types m
planned_types-unnamed m = ap (planned []) (all_mentions-unnamed m) ∙ planned-without_names m.types (all_mentions m)

-- what a checked module is about is what was written in blocks that some path reaches
pub planned_types-checked : (m : Module) → planned_types (unnamed (pruned m)) ≡ planned m.types (mentions m)
planned_types-checked m = planned_types-unnamed (pruned m) ∙ ap (planned m.types) (all_mentions-pruned m)

pub all_places-checked : (m : Module) → all_places (planned_types (unnamed (pruned m))) ≡ mentioned_places m
all_places-checked m = ap all_places (planned_types-checked m) ∙ all_places-mentions m
