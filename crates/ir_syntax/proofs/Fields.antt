-- Fields are those of the list of their types.
use Rattle.std.proofs.Common.{◌≡◌, refl, ap}
use Rattle.ir_syntax.specs.Types.{TextTrees, end, more, list_of, trees_from}

pub is_from_its_list : (trees : TextTrees) → trees_from (list_of trees) ≡ trees
is_from_its_list end = refl
is_from_its_list (more head tail) = ap (more head) (is_from_its_list tail)
