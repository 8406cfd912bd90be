use Rattle.rv_mach.proofs.Places.{places-few, steps-few}
use Rattle.rv_mach.proofs.laws.places_are_few.Goals as goal

pub returns-clause-addresses : goal.returns-clause-addresses
returns-clause-addresses c = places-few

pub returns-clause-steps : goal.returns-clause-steps
returns-clause-steps c = steps-few
