use Rattle.std.proofs.Common.{◌≡◌, ◌++◌, take, map}
use Rattle.ir_slots.specs.Sources.{input_value}
use Rattle.ir_slots.proofs.input.Inputs.push_values.Given as goal

abbrev pub invariant-loop-input : goal.invariant-loop-input
invariant-loop-input l = l.found.items ≡ l.initial.found.items ++ map (input_value l.values) (take l.input-index l.input-items)
