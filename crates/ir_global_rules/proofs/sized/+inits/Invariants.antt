use Rattle.std.proofs.Common.{◌≡◌, ◌≤◌}
use Rattle.ir_global_rules.specs.Sized.{parts_sized}
use Rattle.ir_syntax.specs.declared.init_tree.InitTreeList.{size-InitTreeList}
use Rattle.ir_syntax.specs.Inits.{inits_in}
use Rattle.ir_global_rules.proofs.sized.+inits.Given as goal

abbrev pub invariant-parts_sized-loop-rest : goal.invariant-parts_sized-loop-rest
invariant-parts_sized-loop-rest l = record {
  all : parts_sized l.types (inits_in l.rest) ≡ parts_sized l.types (inits_in l.initial.rest);
  shorter : size-InitTreeList l.rest ≤ size-InitTreeList l.initial.rest;
}
