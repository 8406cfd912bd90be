use Rattle.std.proofs.Common.{◌≡◌, ◌++◌, take}
use Rattle.ir_naming.proofs.ordered.push_all.Given as goal

abbrev pub invariant-loop-item : goal.invariant-loop-item
invariant-loop-item l = l.names.items ≡ l.initial.names.items ++ take l.item-index l.items
