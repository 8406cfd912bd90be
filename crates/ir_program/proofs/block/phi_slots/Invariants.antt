use Rattle.std.proofs.Common.{◌≡◌, take}
use Rattle.ir_slots.specs.Results.{phi_slots}
use Rattle.ir_slots.specs.Slots.{slot_names}
use Rattle.ir_program.proofs.block.phi_slots.Given as goal

abbrev pub invariant-loop-phi : goal.invariant-loop-phi
invariant-loop-phi l = l.found.items ≡ phi_slots (slot_names l.slots) (take l.phi-index l.phis)
