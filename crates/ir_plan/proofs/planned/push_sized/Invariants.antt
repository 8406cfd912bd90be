use Rattle.std.proofs.Common.{◌≡◌, ◌++◌, map, take}
use Rattle.ir_plan.specs.Planned.{planned}
use Rattle.ty_core.specs.Tree.{tree_of}
use Rattle.ir_plan.proofs.planned.push_sized.Given as goal

abbrev pub invariant-loop-mention : goal.invariant-loop-mention
invariant-loop-mention l = map tree_of l.types.items ≡ map tree_of l.initial.types.items ++ planned l.named (take l.mention-index l.written)
