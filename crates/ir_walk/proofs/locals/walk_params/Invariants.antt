use Rattle.std.proofs.Common.{◌≡◌, ◌++◌, take, flat_map}
use Rattle.ir_walk.specs.Locals.{in_param}
use Rattle.ir_walk.proofs.locals.walk_params.Given as goal

abbrev pub invariant-loop-param : goal.invariant-loop-param
invariant-loop-param g l = g.V.LocalVisitor.found l.visitor ≡ g.V.LocalVisitor.found l.initial.visitor ++ flat_map (in_param g.V.LocalVisitor.of_local) (take l.param-index l.params)
