use Rattle.std.proofs.Common.{◌≡◌, List, take}
use Rattle.ir_code.specs.Prepared.{arguments_in}
use Rattle.ir_loaded.specs.Pairs.{loaded}
use Rattle.ir_sem.specs.Intrinsics.{values_of}
use Rattle.ir_sem.specs.declared.value.Value.{Value}
use Rattle.ir_slots.specs.Slots.{slot_names}
use Rattle.ir_slots.specs.Sources.{input_values}
use Rattle.ir_code.proofs.operands.arguments.Given as goal

abbrev pub invariant-loop-arg : goal.invariant-loop-arg
invariant-loop-arg l =
    (values : List Value) → values_of (arguments_in (loaded l.l) (slot_names l.slots) values (take l.arg-index l.args)) ≡ input_values values l.inputs.items
