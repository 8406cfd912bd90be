use Rattle.std.proofs.Common.{◌≡◌, ◌*◌, ◌+◌, map, option_map}
use Rattle.ir_sizes.proofs.ReplacedLemmas.{fields_behind}
use Rattle.ir_sizes.specs.Sized.{fields_by, replaced}
use Rattle.ir_syntax.specs.Types.{trees_in}
use Rattle.ty_core.specs.Tree.{tree_of}
use Rattle.ir_sizes.proofs.replaced.+replacing.Given as goal

abbrev pub decreases-replaced : goal.decreases-replaced
decreases-replaced l = 5 * l.levels

abbrev pub decreases-replaced_type : goal.decreases-replaced_type
decreases-replaced_type l = 5 * l.below + 4

abbrev pub decreases-replaced_name : goal.decreases-replaced_name
decreases-replaced_name l = 5 * l.below + 3

abbrev pub decreases-replaced_struct : goal.decreases-replaced_struct
decreases-replaced_struct l = 5 * l.below + 2

abbrev pub decreases-replaced_fields : goal.decreases-replaced_fields
decreases-replaced_fields l = 5 * l.levels + 1

abbrev pub decreases-replaced_array : goal.decreases-replaced_array
decreases-replaced_array l = 5 * l.below + 1

abbrev pub invariant-replaced_fields-loop-rest : goal.invariant-replaced_fields-loop-rest
invariant-replaced_fields-loop-rest l =
    option_map (fields_behind (map tree_of l.made.items)) (fields_by (replaced l.types l.levels) (trees_in l.rest))
    ≡ fields_by (replaced l.types l.levels) (trees_in l.initial.rest)
