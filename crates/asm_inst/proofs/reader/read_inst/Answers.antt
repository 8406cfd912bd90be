use Rattle.asm_inst.proofs.ReadingLemmas.{alone_line, with_line}
use Rattle.asm_inst.proofs.reader.read_inst.Goals as goal

pub returns-in-Some-cut_at : goal.returns-in-Some-cut_at
returns-in-Some-cut_at c =
    with_line _ _ _ _ _ c.in-Some.ensures c.in-Some-cut_at.ensures.0 c.in-Some-cut_at.ensures.1 c.read_with.ensures

pub returns-in-None : goal.returns-in-None
returns-in-None c = alone_line _ _ _ c.in-Some.ensures c.in-None.ensures c.read_alone.ensures
