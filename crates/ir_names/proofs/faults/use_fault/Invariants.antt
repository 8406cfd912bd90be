use Rattle.std.proofs.Common.{◌≡◌, ◌||◌, take, flat_map}
use Rattle.ir_names.specs.Faults.{use_faults}
use Rattle.ir_names.specs.Least.{least}
use Rattle.ir_names.specs.Sets.{knows}
use Rattle.ir_names.proofs.faults.use_fault.Given as goal

abbrev pub invariant-loop-site : goal.invariant-loop-site
invariant-loop-site l = l.first ≡ least (flat_map (use_faults (λ s. knows l.defined s || knows l.own s)) (take l.site-index l.uses))
