use Rattle.std.proofs.Common.{take}
use Rattle.std.specs.List.{AllZip}
use Rattle.ir_loaded.specs.Pairs.{loaded}
use Rattle.ir_program.specs.Programs.{IsInstrCode}
use Rattle.ir_slots.specs.Slots.{slot_names}
use Rattle.ir_program.proofs.block.instr_codes.Given as goal

abbrev pub invariant-loop-instr : goal.invariant-loop-instr
invariant-loop-instr l = AllZip (IsInstrCode (loaded l.l) (slot_names l.slots)) (take l.instr-index l.instrs) l.codes.items
