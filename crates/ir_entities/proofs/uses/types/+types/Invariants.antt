use Rattle.std.proofs.Common.{◌≡◌, ◌≤◌, ◌++◌}
use Rattle.ir_entities.specs.Uses.{field_uses}
use Rattle.ir_syntax.specs.declared.tree.TypeTreeList.{size-TypeTreeList}
use Rattle.ir_syntax.specs.Types.{trees_in}
use Rattle.ir_entities.proofs.uses.types.+types.Given as goal

abbrev pub invariant-push_fields-loop-rest : goal.invariant-push_fields-loop-rest
invariant-push_fields-loop-rest l = record {
  all : l.sites.items ++ field_uses (trees_in l.rest) ≡ l.initial.sites.items ++ field_uses (trees_in l.initial.rest);
  shorter : size-TypeTreeList l.rest ≤ size-TypeTreeList l.initial.rest;
}
