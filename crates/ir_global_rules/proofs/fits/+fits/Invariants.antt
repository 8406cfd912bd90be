use Rattle.std.proofs.Common.{◌≡◌, ◌≤◌}
use Rattle.ir_global_rules.specs.Fits.{elements_fit, fields_fit}
use Rattle.ir_syntax.specs.declared.init_tree.InitTree.{size-InitTree}
use Rattle.ir_syntax.specs.declared.init_tree.InitTreeList.{size-InitTreeList}
use Rattle.ir_syntax.specs.Inits.{inits_in}
use Rattle.ir_syntax.specs.Types.{tree_of, trees_in}
use Rattle.ir_global_rules.proofs.fits.+fits.Given as goal

abbrev pub invariant-elements_fit-loop-rest : goal.invariant-elements_fit-loop-rest
invariant-elements_fit-loop-rest l = record {
  all : elements_fit l.types (tree_of l.elem) l.left (inits_in l.rest) ≡ elements_fit l.types (tree_of l.elem) l.count (inits_in l.parts);
  shorter : size-InitTreeList l.rest ≤ size-InitTreeList l.initial.rest;
}

abbrev pub invariant-fields_fit-loop-rest : goal.invariant-fields_fit-loop-rest
invariant-fields_fit-loop-rest l = record {
  all : fields_fit l.types (trees_in l.left) (inits_in l.rest) ≡ fields_fit l.types (trees_in l.fields) (inits_in l.parts);
  shorter : size-InitTreeList l.rest ≤ size-InitTreeList l.initial.rest;
}

abbrev pub decreases-fits : goal.decreases-fits
decreases-fits l = size-InitTree l.init.now

abbrev pub decreases-elements_fit : goal.decreases-elements_fit
decreases-elements_fit l = size-InitTreeList l.parts.now

abbrev pub decreases-fields_fit : goal.decreases-fields_fit
decreases-fields_fit l = size-InitTreeList l.parts.now
