use Rattle.std.proofs.Common.{◌≡◌, ◌<◌, ◌≤◌, ℕ, false, take}
use Rattle.asm_read.specs.Checks.{is_far_at, statements_in}
use Rattle.asm_read.specs.Labels.{size}
use Rattle.asm_read.proofs.labels.first_far.Given as goal

abbrev pub invariant-loop-at : goal.invariant-loop-at
invariant-loop-at l = record {
  before : l.before ≡ size (statements_in (take l.at l.lines));
  few : l.before ≤ l.at;
  passed : (k : ℕ) → k < l.at → is_far_at l.lines k ≡ false;
}
