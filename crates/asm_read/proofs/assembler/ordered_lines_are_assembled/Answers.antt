use Rattle.asm_read.proofs.OrderLemmas.{assembly_when_ordered}
use Rattle.asm_read.proofs.assembler.ordered_lines_are_assembled.Goals as goal

pub returns : goal.returns
returns c = assembly_when_ordered
