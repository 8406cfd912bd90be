-- Steps of a `getelementptr`, one by one.
use Rattle.std.proofs.Common.{◌≡◌, ◌∙◌, Option, Some, List, [], ◌∷◌, ◌++◌, refl, ap, sym}
use Rattle.ir_code.specs.Meant.{step_distance, steps_distance}
use Rattle.ir_code.specs.declared.steps.Step.{Step}
use Rattle.ir_geps.specs.Indices.{operand_index}
use Rattle.ir_geps.specs.Ranges.{part_of}
use Rattle.ir_sem.specs.Elements.{added, into, within}
use Rattle.ir_sem.specs.declared.value.Value.{Value}
use Rattle.ir_sizes.specs.Named.{written_out}
use Rattle.ir_syntax.specs.Types.{TextTree}
use Rattle.ir_syntax.specs.declared.operand.Operand.{Operand}
use Rattle.ir_syntax.specs.declared.operand.TypedOperand.{TypedOperand}
use Rattle.ir_syntax.specs.declared.type_def.TypeDef.{TypeDef}

steps_distance-append : (values : List Value) (steps : List Step) (step : Step) (behind : Value)
    → steps_distance values (steps ++ step ∷ []) behind ≡ steps_distance values steps (added (step_distance values step) behind)
steps_distance-append values [] step behind = refl
steps_distance-append values (first ∷ steps) step behind = ap (added (step_distance values first)) (steps_distance-append values steps step behind)

-- one step more goes into the part of one index more
pub one_more : (defs : List TypeDef) (value : TextTree → Operand → Value) (values : List Value) (steps new : List Step) (step : Step)
    (index : TypedOperand) (rest indices : List TypedOperand) (ty : TextTree) (whole part : Option TextTree)
    → new ≡ steps ++ step ∷ []
    → indices ≡ index ∷ rest
    → whole ≡ Some ty
    → into defs value index (written_out defs ty) ≡ step_distance values step
    → part ≡ part_of defs ty (operand_index index)
    → steps_distance values new (within defs value rest part) ≡ steps_distance values steps (within defs value indices whole)
one_more defs value values steps new step index rest indices ty whole part news all is goes parts =
    ap (λ all. steps_distance values all (within defs value rest part)) news
    ∙ steps_distance-append values steps step (within defs value rest part)
    ∙ ap (λ p. steps_distance values steps (added (step_distance values step) (within defs value rest p))) parts
    ∙ ap (λ far. steps_distance values steps (added far (within defs value rest (part_of defs ty (operand_index index))))) (sym goes)
    ∙ ap (λ all. steps_distance values steps (within defs value all (Some ty))) (sym all)
    ∙ ap (λ w. steps_distance values steps (within defs value indices w)) (sym is)
