use Rattle.std.proofs.Common.{rules}
use Rattle.ir_rules.proofs.Repeats.{exactly_gives}
use Rattle.ir_rules.specs.Reading.{Gives}
use Rattle.ir_values.specs.Values.{constants, scalar_forms}
use Rattle.ir_values.proofs.values.read_scalar.Goals as goal

pub returns-in_default : goal.returns-in_default
unfolding scalar_forms
returns-in_default c =
    let gave : Gives (λ x. x) c.read_constant.result (constants.read c.args.rest) = exactly_gives _ _ _ c.read_constant.ensures in
    search rules
