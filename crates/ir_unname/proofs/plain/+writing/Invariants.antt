use Rattle.std.proofs.Common.{◌≡◌, ◌≤◌, ◌++◌}
use Rattle.ir_syntax.specs.Types.{list_of}
use Rattle.ir_unname.specs.Plain.{texts_of}
use Rattle.ty_core.specs.Tree.{trees_of}
use Rattle.ty_core.specs.declared.types.TyList.{size-TyList}
use Rattle.ir_unname.proofs.plain.+writing.Given as goal

abbrev pub decreases-text_of : goal.decreases-text_of
decreases-text_of l = goal.size-text_of l

abbrev pub decreases-texts_of : goal.decreases-texts_of
decreases-texts_of l = goal.size-texts_of l

abbrev pub invariant-texts_of-loop-rest : goal.invariant-texts_of-loop-rest
invariant-texts_of-loop-rest l = record {
  all : l.texts.items ++ list_of (texts_of (trees_of l.rest)) ≡ list_of (texts_of (trees_of l.initial.rest));
  shorter : size-TyList l.rest ≤ size-TyList l.initial.rest;
}
