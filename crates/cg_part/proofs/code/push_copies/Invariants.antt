use Rattle.std.proofs.Common.{◌≡◌, ◌-◌, ◌++◌}
use Rattle.cg_part.specs.Code.{copies}
use Rattle.cg_part.proofs.code.push_copies.Given as goal

abbrev pub invariant-loop-place : goal.invariant-loop-place
invariant-loop-place l = l.code.items ≡ l.initial.code.items ++ copies l.rd l.first (l.place - l.first)
