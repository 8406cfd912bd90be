use Rattle.std.proofs.Common.{◌≡◌, ◌<◌, ℕ, List, false, take}
use Rattle.std.specs.List.{list_any}
use Rattle.asm_read.specs.Checks.{has, refuses_at}
use Rattle.asm_line.specs.Statements.{opens}
use Rattle.asm_read.specs.Checks.{gives}
use Rattle.asm_read.specs.Labels.{is_some_and}
use Rattle.asm_read.proofs.check.first_refused.Given as goal

abbrev pub invariant-loop-at : goal.invariant-loop-at
invariant-loop-at l = record {
  opened : l.opened ≡ list_any (is_some_and opens) (take l.at l.lines);
  seen : (q : List ℕ) → has l.seen q ≡ list_any (is_some_and (gives q)) (take l.at l.lines);
  passed : (k : ℕ) → k < l.at → refuses_at l.lines k ≡ false;
}
