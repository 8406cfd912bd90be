use Rattle.asm_line.proofs.LabelLemmas.{label_decided}
use Rattle.asm_line.proofs.symbol.is_label.Goals as goal

pub returns : goal.returns
returns c = label_decided c.args.name.now c.in-Some.numbers.now c.in-Some-cut_at.function.now c.in-Some-cut_at.block.now c.is_number.result c.is_number-2.result c.in-Some.ensures c.in-Some-cut_at.ensures c.is_number.ensures c.is_number-2.ensures
