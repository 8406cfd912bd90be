use Rattle.std.proofs.Common.{◌≡◌, ℕ, List, take}
use Rattle.std.specs.List.{list_any}
use Rattle.asm_read.specs.Checks.{has}
use Rattle.asm_read.specs.Assembly.{exports}
use Rattle.asm_read.specs.Labels.{is_some_and}
use Rattle.asm_read.proofs.check.exported_names.Given as goal

abbrev pub invariant-loop-line : goal.invariant-loop-line
invariant-loop-line l = (q : List ℕ) → has l.names q ≡ list_any (is_some_and (exports q)) (take l.line-index l.lines)
