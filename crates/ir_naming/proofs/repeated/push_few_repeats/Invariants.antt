use Rattle.std.proofs.Common.{◌≡◌, ◌++◌, take}
use Rattle.ir_naming.specs.Repeated.{repeats}
use Rattle.ir_naming.proofs.repeated.push_few_repeats.Given as goal

abbrev pub invariant-loop-place : goal.invariant-loop-place
invariant-loop-place l = l.lines.items ≡ l.initial.lines.items ++ repeats (take l.place l.names)
