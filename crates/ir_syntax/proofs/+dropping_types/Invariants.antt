use Rattle.std.proofs.Common.{◌≤◌}
use Rattle.ir_syntax.specs.declared.tree.TypeTreeList.{size-TypeTreeList}
use Rattle.ir_syntax.proofs.+dropping_types.Given as goal

abbrev pub invariant-tree::TypeTreeList::drop-loop-self : goal.invariant-tree::TypeTreeList::drop-loop-self
invariant-tree::TypeTreeList::drop-loop-self l = size-TypeTreeList l.self ≤ size-TypeTreeList l.initial.self
