use Rattle.std.proofs.Common.{arith}
use Rattle.ir_plan.proofs.PlaceLemmas.{too_many}
use Rattle.ir_plan.proofs.planned.types_plan.Goals as goal

pub returns-in-Ok-clause-err : goal.returns-in-Ok-clause-err
returns-in-Ok-clause-err c = too_many c.args.m.now c.in-Ok.places c.in-Ok.ensures (omega (arith, c.if-places-gt-PLAN_LIMIT.true))
