use Rattle.rv_mach.proofs.Registers.{run_of-file, start-file}
use Rattle.rv_mach.proofs.laws.registers_stay_whole.Goals as goal

pub returns-clause-kept : goal.returns-clause-kept
returns-clause-kept c = run_of-file

pub returns-clause-begun : goal.returns-clause-begun
returns-clause-begun c = start-file
