use Rattle.std.proofs.Common.{◌≡◌, ◌++◌, length}
use Rattle.ir_syntax.specs.Types.{list_of, trees_in}
use Rattle.ir_syntax.proofs.ty.tree_list.Given as goal

abbrev pub decreases-loop-ty : goal.decreases-loop-ty
decreases-loop-ty l = length l.types.items

abbrev pub invariant-loop-ty : goal.invariant-loop-ty
invariant-loop-ty l = l.types.items ++ list_of (trees_in l.list) ≡ l.initial.types.items
