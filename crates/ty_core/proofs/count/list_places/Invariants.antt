use Rattle.std.proofs.Common.{◌≡◌, ◌+◌, ◌≤◌}
use Rattle.ty_core.specs.Plans.{all_places, capped, trees_in}
use Rattle.ty_core.proofs.count.list_places.Given as goal

abbrev pub invariant-loop-rest : goal.invariant-loop-rest
invariant-loop-rest l = record {
  total : capped (l.total + all_places (trees_in l.rest)) ≡ capped (all_places (trees_in l.initial.rest));
  word : l.total ≤ 18446744073709551615;
}
