use Rattle.std.proofs.Common.{◌≡◌, ◌≤◌}
use Rattle.ir_phis.specs.Values.{same_types}
use Rattle.ir_syntax.specs.Types.{trees_in}
use Rattle.ir_syntax.specs.declared.tree.TypeTreeList.{size-TypeTreeList}
use Rattle.ir_phis.proofs.types.+same.Given as goal

abbrev pub decreases-same_tree : goal.decreases-same_tree
decreases-same_tree l = goal.size-same_tree l

abbrev pub decreases-same_trees : goal.decreases-same_trees
decreases-same_trees l = goal.size-same_trees l

abbrev pub invariant-same_trees-loop-left : goal.invariant-same_trees-loop-left
invariant-same_trees-loop-left l = record {
  rests : same_types (trees_in l.left) (trees_in l.right) ≡ same_types (trees_in l.initial.left) (trees_in l.initial.right);
  shorter : size-TypeTreeList l.left ≤ size-TypeTreeList l.initial.left;
}
