use Rattle.std.proofs.Common.{◌≡◌, ◌≤◌, ◌++◌}
use Rattle.ir_geps.specs.Operands.{element_operands}
use Rattle.ir_syntax.specs.declared.init_tree.InitTreeList.{size-InitTreeList}
use Rattle.ir_syntax.specs.Inits.{inits_in}
use Rattle.ir_geps.proofs.operands.+inits.Given as goal

abbrev pub invariant-push_parts-loop-rest : goal.invariant-push_parts-loop-rest
invariant-push_parts-loop-rest l = record {
  all : l.sites.sites.items ++ element_operands (inits_in l.rest) ≡ l.initial.sites.sites.items ++ element_operands (inits_in l.initial.rest);
  shorter : size-InitTreeList l.rest ≤ size-InitTreeList l.initial.rest;
}
