use Rattle.rv_mach.proofs.Straight.{run-through}
use Rattle.rv_mach.proofs.laws.straight_code_runs.Goals as goal

pub returns : goal.returns
returns c = run-through
