use Rattle.std.proofs.Common.{take}
use Rattle.ir_flow.specs.Edges.{AreTaken}
use Rattle.ir_loaded.specs.Pairs.{loaded}
use Rattle.ir_slots.specs.Slots.{slot_names}
use Rattle.ir_flow.proofs.ways.Ways.taken.Given as goal

abbrev pub invariant-loop-phi : goal.invariant-loop-phi
invariant-loop-phi l = AreTaken (loaded l.self.0) (slot_names l.self.1) l.from (take l.phi-index l.phis) l.inputs.items
