use Rattle.std.proofs.Common.{◌≡◌, ◌≤◌, ◌++◌}
use Rattle.ir_entities.specs.OperandUses.{element_uses}
use Rattle.ir_syntax.specs.declared.init_tree.InitTreeList.{size-InitTreeList}
use Rattle.ir_syntax.specs.Inits.{inits_in}
use Rattle.ir_entities.proofs.uses.operands.+inits.Given as goal

abbrev pub invariant-push_parts-loop-rest : goal.invariant-push_parts-loop-rest
invariant-push_parts-loop-rest l = record {
  all : l.sites.items ++ element_uses (inits_in l.rest) ≡ l.initial.sites.items ++ element_uses (inits_in l.initial.rest);
  shorter : size-InitTreeList l.rest ≤ size-InitTreeList l.initial.rest;
}
