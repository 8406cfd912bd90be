use Rattle.std.proofs.Common.{◌≡◌, ◌++◌, take}
use Rattle.ir_uses.specs.Numbered.{flat_numbered}
use Rattle.ir_uses.specs.Uses.{instr_uses}
use Rattle.ir_uses.proofs.uses.push_instrs.Given as goal

abbrev pub invariant-loop-before : goal.invariant-loop-before
invariant-loop-before l = l.uses.items ≡ l.initial.uses.items ++ flat_numbered (instr_uses l.place) 0 (take l.before l.instrs)
