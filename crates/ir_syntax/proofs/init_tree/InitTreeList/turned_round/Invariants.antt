use Rattle.std.proofs.Common.{◌≡◌, ◌++◌, length}
use Rattle.ir_syntax.specs.InitLists.{parts_before, parts_of}
use Rattle.ir_syntax.specs.Inits.{inits_in}
use Rattle.ir_syntax.proofs.init_tree.InitTreeList.turned_round.Given as goal

abbrev pub decreases-loop-self : goal.decreases-loop-self
decreases-loop-self l = length (parts_before (inits_in l.self))

abbrev pub invariant-loop-self : goal.invariant-loop-self
invariant-loop-self l = parts_before (inits_in l.self) ++ parts_of (inits_in l.list) ≡ parts_before (inits_in l.initial.self)
