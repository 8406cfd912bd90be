use Rattle.std.proofs.Common.{◌≤◌}
use Rattle.ir_syntax.specs.declared.init_tree.InitTreeList.{size-InitTreeList}
use Rattle.ir_syntax.proofs.+dropping_inits.Given as goal

abbrev pub invariant-init_tree::InitTreeList::drop-loop-self : goal.invariant-init_tree::InitTreeList::drop-loop-self
invariant-init_tree::InitTreeList::drop-loop-self l = size-InitTreeList l.self ≤ size-InitTreeList l.initial.self
