use Rattle.rv_mach.proofs.Lookups.{register-same, register-other}
use Rattle.rv_mach.proofs.laws.registers_are_set.Goals as goal

pub returns-clause-same : goal.returns-clause-same
returns-clause-same c = register-same

pub returns-clause-other : goal.returns-clause-other
returns-clause-other c = register-other
