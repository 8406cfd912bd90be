use Rattle.std.proofs.Common.{arith}
use Rattle.ir_slots.proofs.ResultLemmas.{includes_item}
use Rattle.ir_slots.specs.Slots.{slot_names, value_names}
use Rattle.ir_walk.specs.Locals.{in_instr}
use Rattle.ir_program.proofs.block.instr_codes.Goals as goal

pub instr_code-requires : goal.instr_code-requires
instr_code-requires c =
    includes_item (in_instr value_names) (slot_names c.args.slots.now) c.args.instrs.now c.loop-instr.instr-index c.instr-item.result c.requires (omega arith) c.instr-item.is
