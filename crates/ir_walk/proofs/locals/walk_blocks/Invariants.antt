use Rattle.std.proofs.Common.{◌≡◌, ◌++◌, take, flat_map}
use Rattle.ir_walk.specs.Locals.{in_block}
use Rattle.ir_walk.proofs.locals.walk_blocks.Given as goal

abbrev pub invariant-loop-block : goal.invariant-loop-block
invariant-loop-block g l = g.V.LocalVisitor.found l.visitor ≡ g.V.LocalVisitor.found l.initial.visitor ++ flat_map (in_block g.V.LocalVisitor.of_local) (take l.block-index l.blocks)
