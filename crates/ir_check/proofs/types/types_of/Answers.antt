use Rattle.std.proofs.Common.{◌∙◌, arith, subst, sym}
use Rattle.ir_check.proofs.CheckedFacts.{plan_fits, plan_of_source}
use Rattle.ir_check.specs.Checks.{IsCheckedFrom}
use Rattle.ir_plan.specs.Planned.{IsTypesEnd, planned_types}
use Rattle.ir_check.proofs.types.types_of.Goals as goal

pub unreachable-requires : goal.unreachable-requires
unreachable-requires c =
    let many = subst (IsTypesEnd (planned_types c.module.result.now)) c.in-Err-TooMany.field-0-is c.in-Err-TooMany.ensures.err in
    omega (arith, many.0, plan_fits c.module.result.now c.module.ensures.checked)

pub returns-in-Ok-clause-source : goal.returns-in-Ok-clause-source
returns-in-Ok-clause-source c = λ source from.
    c.in-Ok.ensures.ok ∙ plan_of_source source c.module.result.now (subst (IsCheckedFrom source) (sym c.module.ensures.value) from)
