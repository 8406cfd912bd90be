use Rattle.std.proofs.Common.{◌≡◌, ◌++◌, map, take}
use Rattle.ir_uses.specs.Uses.{use_at}
use Rattle.ir_uses.proofs.uses.push_locals.Given as goal

abbrev pub invariant-loop-local : goal.invariant-loop-local
invariant-loop-local l = l.uses.items ≡ l.initial.uses.items ++ map (use_at l.line l.place l.before) (take l.local-index l.locals)
