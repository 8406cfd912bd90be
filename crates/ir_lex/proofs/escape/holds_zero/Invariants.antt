use Rattle.std.proofs.Common.{length, drop, ◌-◌, ◌≡◌, ◌==◌, ◌≤◌}
use Rattle.std.specs.List.{list_any}
use Rattle.ir_lex.specs.Escapes.{holds_zero, unescaped_after}
use Rattle.ir_lex.proofs.escape.holds_zero.Given as goal

abbrev pub invariant-loop-at : goal.invariant-loop-at
invariant-loop-at l = record {
  within : l.at ≤ length l.text;
  left : list_any (λ b. b == 0) (unescaped_after 0 (drop l.at l.text)) ≡ holds_zero l.text;
}

abbrev pub decreases-loop-at : goal.decreases-loop-at
decreases-loop-at l = length l.text - l.at
