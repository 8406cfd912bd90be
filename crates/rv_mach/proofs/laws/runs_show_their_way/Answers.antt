use Rattle.rv_mach.proofs.OnTheWay.{going-before, output-before}
use Rattle.rv_mach.proofs.laws.runs_show_their_way.Goals as goal

pub returns-clause-going : goal.returns-clause-going
returns-clause-going c = going-before

pub returns-clause-output : goal.returns-clause-output
returns-clause-output c = output-before
