use Rattle.std.proofs.Common.{◌≡◌, ◌++◌, take, map, filter}
use Rattle.obj_link.specs.Layout.{addressed}
use Rattle.obj_link.proofs.layout.push_globals.Given as goal

abbrev pub invariant-loop-symbol : goal.invariant-loop-symbol
invariant-loop-symbol l =
    l.found.items ≡ l.initial.found.items ++ map (addressed l.sections) (filter (λ s. s.global) (take l.symbol-index l.symbols))
