use Rattle.asm_inst.proofs.ReadingLemmas.{full_with}
use Rattle.asm_inst.proofs.reader.read_with.Goals as goal

pub returns-in-Some : goal.returns-in-Some
returns-in-Some c = full_with _ _ c.in-Some.op _ c.in-Some.ensures c.read_in_full.ensures
