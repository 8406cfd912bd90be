use Rattle.std.proofs.Common.{◌≡◌, take, map}
use Rattle.obj_link.specs.Layout.{addressed}
use Rattle.obj_link.proofs.layout.addresses_of.Given as goal

abbrev pub invariant-loop-symbol : goal.invariant-loop-symbol
invariant-loop-symbol l = l.found.items ≡ map (addressed l.sections) (take l.symbol-index l.symbols)
