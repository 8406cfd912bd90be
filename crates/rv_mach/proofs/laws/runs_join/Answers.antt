use Rattle.std.proofs.Common.{ap}
use Rattle.rv_mach.proofs.Runs.{run_of-add}
use Rattle.rv_mach.proofs.laws.runs_join.Goals as goal

pub returns : goal.returns
returns c = λ input a b m.
    record {
      machine = ap (λ r. r.machine) (run_of-add input a b m);
      output = ap (λ r. r.output) (run_of-add input a b m);
    }
