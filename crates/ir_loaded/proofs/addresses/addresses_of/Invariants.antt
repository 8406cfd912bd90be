use Rattle.std.proofs.Common.{◌≡◌, ◌++◌, drop}
use Rattle.ir_sem.specs.Addresses.{addresses_of}
use Rattle.ir_loaded.proofs.addresses.addresses_of.Given as goal

abbrev pub invariant-loop-variable : goal.invariant-loop-variable
invariant-loop-variable l =
    l.all.items ++ addresses_of (drop l.variable-index l.variables) (drop l.used l.addresses) ≡ addresses_of l.variables l.addresses
