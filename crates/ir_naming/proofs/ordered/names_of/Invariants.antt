use Rattle.std.proofs.Common.{◌≡◌, take, map}
use Rattle.ir_naming.proofs.ordered.names_of.Given as goal

abbrev pub invariant-loop-item : goal.invariant-loop-item
invariant-loop-item g l = l.names.items ≡ map g.T.Named.item (take l.item-index l.items)
