use Rattle.std.proofs.Common.{rules, subst}
use Rattle.ir_rules.specs.Reading.{GivesExactly}
use Rattle.ir_rules.specs.Rules.{each}
use Rattle.ir_value_ops.specs.ValueOps.{wrap, wrap_forms}
use Rattle.ir_value_ops.proofs.ValueOpLaws.{wrap_law}
use Rattle.ir_value_ops.proofs.WrapSteps.{wraps_join}
use Rattle.ir_value_ops.proofs.wraps.read_wraps.Goals as goal

pub fold_each-requires-clause-law : goal.fold_each-requires-clause-law
fold_each-requires-clause-law c = wrap_law

pub returns : goal.returns
unfolding wrap_forms
returns c = subst (GivesExactly (λ x. x) c.fold_each.result) (wraps_join ((each wrap).read c.args.rest)) c.fold_each.ensures
