use Rattle.ir_mem.proofs.PlaceLemmas.{freed_placed}
use Rattle.ir_mem.proofs.laws.free_undoes_place.Goals as goal

pub returns : goal.returns
returns c = freed_placed
