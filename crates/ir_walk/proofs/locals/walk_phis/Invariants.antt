use Rattle.std.proofs.Common.{◌≡◌, ◌++◌, take, flat_map}
use Rattle.ir_walk.specs.Locals.{in_phi}
use Rattle.ir_walk.proofs.locals.walk_phis.Given as goal

abbrev pub invariant-loop-phi : goal.invariant-loop-phi
invariant-loop-phi g l = g.V.LocalVisitor.found l.visitor ≡ g.V.LocalVisitor.found l.initial.visitor ++ flat_map (in_phi g.V.LocalVisitor.of_local) (take l.phi-index l.phis)
