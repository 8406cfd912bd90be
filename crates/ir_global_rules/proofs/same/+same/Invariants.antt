use Rattle.std.proofs.Common.{◌≡◌, ◌+◌, ◌*◌}
use Rattle.ir_global_rules.specs.Same.{same_fields, same_within}
use Rattle.ir_syntax.specs.Types.{trees_in}
use Rattle.ir_global_rules.proofs.same.+same.Given as goal

abbrev pub decreases-same_within : goal.decreases-same_within
decreases-same_within l = 3 * l.levels

abbrev pub decreases-same_fields : goal.decreases-same_fields
decreases-same_fields l = 3 * l.levels + 1

abbrev pub decreases-same_parts : goal.decreases-same_parts
decreases-same_parts l = 3 * l.levels + 2

abbrev pub invariant-same_fields-loop-left : goal.invariant-same_fields-loop-left
invariant-same_fields-loop-left l =
    same_fields (same_within l.types l.levels) (trees_in l.left) (trees_in l.right) ≡ same_fields (same_within l.types l.levels) (trees_in l.a) (trees_in l.b)
