use Rattle.std.proofs.Common.{◌≡◌, ◌++◌, take, flat_map}
use Rattle.ir_walk.specs.Locals.{in_instr}
use Rattle.ir_walk.proofs.locals.walk_instrs.Given as goal

abbrev pub invariant-loop-instr : goal.invariant-loop-instr
invariant-loop-instr g l = g.V.LocalVisitor.found l.visitor ≡ g.V.LocalVisitor.found l.initial.visitor ++ flat_map (in_instr g.V.LocalVisitor.of_local) (take l.instr-index l.instrs)
