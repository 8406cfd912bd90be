use Rattle.std.proofs.Common.{◌≡◌, ◌++◌, ◌+◌, ◌-◌, ◌≤◌, drop, length}
use Rattle.ir_naming.specs.Items.{merged}
use Rattle.ir_naming.proofs.ordered.merged.Given as goal

abbrev pub invariant-loop-taken : goal.invariant-loop-taken
invariant-loop-taken l = record {
  left : l.taken ≤ length l.left;
  right : l.other ≤ length l.right;
  merged : l.names.items ++ merged (drop l.taken l.left) (drop l.other l.right) ≡ merged l.left l.right;
}

abbrev pub decreases-loop-taken : goal.decreases-loop-taken
decreases-loop-taken l = (length l.left - l.taken) + (length l.right - l.other)
