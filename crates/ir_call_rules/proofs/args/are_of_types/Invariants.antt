use Rattle.std.proofs.Common.{◌≡◌, length, map}
use Rattle.ir_call_rules.specs.Calls.{are_of_types}
use Rattle.ir_call_rules.proofs.args.are_of_types.Given as goal

abbrev pub invariant-loop-types : goal.invariant-loop-types
invariant-loop-types g l = are_of_types (map g.T.StatesType.stated l.types) l.args ≡ are_of_types (map g.T.StatesType.stated l.initial.types) l.initial.args

abbrev pub decreases-loop-types : goal.decreases-loop-types
decreases-loop-types g l = length l.types
