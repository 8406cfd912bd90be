use Rattle.rv_mach.proofs.Runs.{run_of-stopped}
use Rattle.rv_mach.proofs.laws.stopped_machine_stays.Goals as goal

pub returns : goal.returns
returns c = run_of-stopped
