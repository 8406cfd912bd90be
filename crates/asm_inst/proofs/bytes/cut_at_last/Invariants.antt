use Rattle.std.proofs.Common.{◌-◌, drop, length}
use Rattle.asm_inst.specs.Bytes.{IsAbsent}
use Rattle.asm_inst.proofs.bytes.cut_at_last.Given as goal

abbrev pub invariant-loop-after : goal.invariant-loop-after
invariant-loop-after l = IsAbsent l.byte (drop (length l.bytes - l.after) l.bytes)
