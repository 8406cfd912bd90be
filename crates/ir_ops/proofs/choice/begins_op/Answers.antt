use Rattle.std.proofs.Common.{◌++◌}
use Rattle.ir_rules.proofs.Sets.{in_either}
use Rattle.ir_calls.specs.Calls.{call_firsts}
use Rattle.ir_value_ops.specs.ValueOps.{value_firsts}
use Rattle.ir_ops.specs.Operations.{memory_firsts}
use Rattle.ir_ops.proofs.choice.begins_op.Goals as goal

pub returns : goal.returns
returns c =
    in_either (value_firsts ++ memory_firsts) call_firsts c.args.class _ _
    (in_either value_firsts memory_firsts c.args.class _ _ c.begins_value_op.ensures c.begins_memory_op.ensures) c.begins_call.ensures
