use Rattle.std.proofs.Common.{◌++◌}
use Rattle.ir_rules.proofs.Sets.{in_either}
use Rattle.ir_value_ops.specs.ValueOps.{bitwise_firsts, exact_firsts, other_value_firsts, wrapping_firsts}
use Rattle.ir_value_ops.proofs.value_choice.begins_value_op.Goals as goal

pub returns : goal.returns
returns c =
    in_either (wrapping_firsts ++ exact_firsts ++ bitwise_firsts) other_value_firsts c.args.class _ _
    (in_either (wrapping_firsts ++ exact_firsts) bitwise_firsts c.args.class _ _
    (in_either wrapping_firsts exact_firsts c.args.class _ _ c.begins_wrapping.ensures c.begins_exact.ensures) c.begins_bitwise.ensures)
    c.begins_other_value_op.ensures
