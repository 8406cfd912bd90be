use Rattle.rv_isa.proofs.Table.{encoded-decoded}
use Rattle.rv_isa.proofs.encoding.decoding_is_undone.Goals as goal

pub returns : goal.returns
returns c = encoded-decoded
