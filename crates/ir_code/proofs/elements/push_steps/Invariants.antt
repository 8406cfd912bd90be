use Rattle.std.proofs.Common.{◌≡◌, List, Some, drop, option_map, option_copied}
use Rattle.ir_code.specs.Meant.{steps_distance}
use Rattle.ir_code.specs.Prepared.{value_in}
use Rattle.ir_loaded.specs.Pairs.{loaded}
use Rattle.ir_sem.specs.Elements.{within}
use Rattle.ir_sem.specs.declared.value.Value.{Value}
use Rattle.ir_slots.specs.Slots.{slot_names}
use Rattle.ir_syntax.specs.Types.{tree_of}
use Rattle.ir_code.proofs.elements.push_steps.Given as goal

abbrev pub invariant-loop-index : goal.invariant-loop-index
invariant-loop-index l =
    (values : List Value) →
    steps_distance values l.steps.items (within l.l.0.types (value_in (loaded l.l) (slot_names l.slots) values) (drop l.index-index l.indices) (option_map tree_of (option_copied l.part)))
    ≡ steps_distance values l.initial.steps.items (within l.l.0.types (value_in (loaded l.l) (slot_names l.slots) values) l.indices (Some (tree_of l.ty)))
