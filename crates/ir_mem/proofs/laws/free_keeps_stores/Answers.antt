use Rattle.ir_mem.proofs.KeepLemmas.{freed_stored}
use Rattle.ir_mem.proofs.laws.free_keeps_stores.Goals as goal

pub returns : goal.returns
returns c = freed_stored
