use Rattle.std.proofs.Common.{take}
use Rattle.asm_inst.specs.Bytes.{IsAbsent}
use Rattle.asm_inst.proofs.bytes.cut_at.Given as goal

abbrev pub invariant-loop-at : goal.invariant-loop-at
invariant-loop-at l = IsAbsent l.byte (take l.at l.bytes)
