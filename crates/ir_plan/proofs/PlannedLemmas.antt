-- The types of a module that have a size, one after the other.
use Rattle.std.proofs.Common.{◌≡◌, ◌∙◌, ℕ, ◌+◌, ◌<◌, Bool, true, false, List, [], ◌∷◌, ◌++◌, get_or, length, take, if◌then◌else◌, refl, sym, ap}
use Rattle.std.specs.List.{cons_option, list_any}
use Rattle.std.proofs.lemmas.List.{take_more}
use Rattle.std.proofs.lemmas.List.Elements.{filter_map-append}
use Rattle.ir_mentions.specs.Mentions.{needed_types, written_types}
use Rattle.ir_mentions.specs.declared.which.Which.TheVariants.{Every}
use Rattle.ir_plan.specs.Planned.{planned, planned_types}
use Rattle.ir_sizes.specs.Sized.{replaced, sized_tree}
use Rattle.ir_syntax.specs.Definitions.{has_body}
use Rattle.ir_syntax.specs.Types as text
use Rattle.ir_syntax.specs.Types.{TextTree}
use Rattle.ir_syntax.specs.declared.module.Module.{Module}
use Rattle.ir_syntax.specs.declared.type_def.TypeDef.{TypeDef}
use Rattle.ty_core.specs.Tree.{int, ptr}

-- up to one more
pub planned-more : (defs : List TypeDef) (types : List TextTree) (i : ℕ) (ty : TextTree) → i < length types → ty ≡ get_or types i ty →
    planned defs (take i types) ++ cons_option (sized_tree defs ty) [] ≡ planned defs (take (i + 1) types)
planned-more defs types i ty inside is =
    sym (ap (planned defs) (take_more types i ty inside ∙ ap (λ t. take i types ++ t ∷ []) (sym is))
    ∙ filter_map-append (sized_tree defs) (take i types) (ty ∷ []))

planned-needed : (defs : List TypeDef) (some : Bool) →
    planned defs (if some then text.int 64 ∷ text.int 1 ∷ text.ptr ∷ [] else []) ≡ (if some then int 64 ∷ int 1 ∷ ptr ∷ [] else [])
unfolding replaced
planned-needed defs true = refl
planned-needed defs false = refl

-- those that functions need come first
pub planned-parts : (m : Module) →
    (if list_any has_body m.functions then int 64 ∷ int 1 ∷ ptr ∷ [] else []) ++ planned m.types (written_types Every m) ≡ planned_types m
planned-parts m =
    sym (filter_map-append (sized_tree m.types) (needed_types m) (written_types Every m)
    ∙ ap (λ first. first ++ planned m.types (written_types Every m)) (planned-needed m.types (list_any has_body m.functions)))
