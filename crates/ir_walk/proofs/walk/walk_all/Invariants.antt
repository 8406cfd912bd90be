use Rattle.std.proofs.Common.{◌≡◌, ◌++◌, take, flat_map}
use Rattle.ir_walk.proofs.walk.walk_all.Given as goal

abbrev pub invariant-loop-item : goal.invariant-loop-item
invariant-loop-item g l = g.V.Visitor.found l.visitor ≡ g.V.Visitor.found l.initial.visitor ++ flat_map g.V.Visitor.of_part (flat_map g.T.Walk.parts (take l.item-index l.items))
