use Rattle.rv_isa.proofs.Table.{decoded-encoded}
use Rattle.rv_isa.proofs.encoding.encoding_is_undone.Goals as goal

pub returns : goal.returns
returns c = decoded-encoded
