use Rattle.std.proofs.Common.{take}
use Rattle.std.specs.List.{flat_map}
use Rattle.ir_scope.specs.Locals.{Adds}
use Rattle.ir_scope.proofs.locals.add_all.Given as goal

abbrev pub invariant-loop-item : goal.invariant-loop-item
invariant-loop-item g l = Adds l.initial.scalars l.scalars (flat_map g.T.HasValues.values (take l.item-index l.items))
