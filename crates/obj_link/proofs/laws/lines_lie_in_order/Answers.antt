use Rattle.obj_link.proofs.ImageParts.{lines_lie, symbol_lies}
use Rattle.obj_link.proofs.laws.lines_lie_in_order.Goals as goal

pub returns-clause-words : goal.returns-clause-words
returns-clause-words c = lines_lie

pub returns-clause-symbols : goal.returns-clause-symbols
returns-clause-symbols c = symbol_lies
