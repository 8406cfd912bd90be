use Rattle.std.proofs.Common.{◌≡◌, ◌++◌, take, map}
use Rattle.rv_isa.specs.Lines.{text_of_lines}
use Rattle.rv_isa.specs.Text.{instruction_line}
use Rattle.asm_print.proofs.instruction.push_code.Given as goal

abbrev pub invariant-loop-inst : goal.invariant-loop-inst
invariant-loop-inst l = l.out.items ≡ l.initial.out.items ++ text_of_lines (map instruction_line (take l.inst-index l.code))
