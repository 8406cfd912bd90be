use Rattle.ir_mem.proofs.StayLemmas.{freed_stays, placed_stays, sealed_stays, stored_stays}
use Rattle.ir_mem.proofs.laws.memories_stay.Goals as goal

pub returns-clause-placed : goal.returns-clause-placed
returns-clause-placed c = placed_stays

pub returns-clause-stored : goal.returns-clause-stored
returns-clause-stored c = stored_stays

pub returns-clause-sealed : goal.returns-clause-sealed
returns-clause-sealed c = sealed_stays

pub returns-clause-freed : goal.returns-clause-freed
returns-clause-freed c = freed_stays
