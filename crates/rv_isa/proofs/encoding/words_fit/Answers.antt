use Rattle.rv_isa.proofs.Table.{has_fields}
use Rattle.rv_isa.proofs.encoding.words_fit.Goals as goal

pub returns : goal.returns
returns c = λ i is. (has_fields i is).fits
