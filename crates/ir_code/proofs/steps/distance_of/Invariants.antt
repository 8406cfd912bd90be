use Rattle.std.proofs.Common.{◌≡◌, ◌≤◌, drop, length}
use Rattle.ir_code.specs.Meant.{steps_distance}
use Rattle.ir_sem.specs.declared.value.Value.TheVariants.{Number}
use Rattle.ir_code.proofs.steps.distance_of.Given as goal

abbrev pub invariant-loop-left : goal.invariant-loop-left
invariant-loop-left l = record {
  within : l.left ≤ length l.steps;
  behind : l.distance ≡ steps_distance l.values (drop l.left l.steps) (Number 0);
}

abbrev pub decreases-loop-left : goal.decreases-loop-left
decreases-loop-left l = l.left
