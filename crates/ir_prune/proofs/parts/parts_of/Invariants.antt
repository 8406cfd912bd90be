use Rattle.std.proofs.Common.{◌≡◌, ◌++◌, drop}
use Rattle.std.specs.Vec.Iter.{into_iter_items}
use Rattle.ir_cfg.specs.Reached.{marked}
use Rattle.ir_prune.specs.Pruned.{unmarked}
use Rattle.ir_prune.proofs.parts.parts_of.Given as goal

abbrev pub invariant-loop-is_kept : goal.invariant-loop-is_kept
invariant-loop-is_kept l = record {
  kept : l.parts.kept.items ++ marked (drop l.is_kept-index l.marks) (into_iter_items l.rest) ≡ marked l.marks (into_iter_items l.initial.rest);
  dropped : l.parts.dropped.items ++ unmarked (drop l.is_kept-index l.marks) (into_iter_items l.rest) ≡ unmarked l.marks (into_iter_items l.initial.rest);
}
