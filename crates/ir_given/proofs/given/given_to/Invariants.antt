use Rattle.std.proofs.Common.{◌≡◌, ◌≤◌, length}
use Rattle.std.specs.List.{count_by}
use Rattle.ir_given.specs.Given.{free_candidates, is_unnamed}
use Rattle.ir_given.proofs.given.given_to.Given as goal

abbrev pub invariant-loop-number : goal.invariant-loop-number
invariant-loop-number l = record {
  free : l.given.items ≡ free_candidates l.names l.number;
  few : length l.given.items ≤ count_by is_unnamed l.names;
}
