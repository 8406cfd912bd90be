use Rattle.std.proofs.Common.{◌≡◌, ◌∙◌, ◌++◌, ◌∷◌, [], if◌then◌else◌, map, rules}
use Rattle.std.specs.List.{list_any}
use Rattle.ir_plan.proofs.PlannedLemmas.{planned-parts}
use Rattle.ir_plan.specs.Planned.{planned}
use Rattle.ir_syntax.specs.Definitions.{has_body}
use Rattle.ir_mentions.specs.Mentions.{written_types}
use Rattle.ir_mentions.specs.declared.which.Which.TheVariants.{Every}
use Rattle.ty_core.specs.Tree.{int, ptr, tree_of}
use Rattle.ir_plan.proofs.planned.sized_types.Goals as goal

pub returns : goal.returns
returns c =
    let m = c.args.m.now in
    let first : map tree_of c.in_ok-types.types.items ≡ (if list_any has_body m.functions then int 64 ∷ int 1 ∷ ptr ∷ [] else []) = search rules in
    let rest : planned c.in_ok-named.named c.in_ok-written.written.items ≡ planned m.types (written_types Every m) = search rules in
    let pushed : map tree_of c.push_sized.new.types.items ≡ map tree_of c.in_ok-types.types.items ++ planned c.in_ok-named.named c.in_ok-written.written.items = search rules in
    pushed ∙ (λ k. first k ++ rest k) ∙ planned-parts m
