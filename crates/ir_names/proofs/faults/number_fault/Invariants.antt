use Rattle.std.proofs.Common.{◌≡◌, ◌≤◌, take}
use Rattle.ir_names.specs.Faults.{number_faults}
use Rattle.ir_numbers.specs.Unnamed.{unnamed_in}
use Rattle.ir_names.specs.Least.{least}
use Rattle.ir_names.proofs.faults.number_fault.Given as goal

abbrev pub invariant-loop-site : goal.invariant-loop-site
invariant-loop-site l = record {
  first : l.first ≡ least (number_faults (take l.site-index l.sites));
  next : l.next ≡ unnamed_in (take l.site-index l.sites);
  small : l.next ≤ l.site-index;
}
