use Rattle.std.proofs.Common.{◌≡◌, ◌≤◌, ℕ, List, take}
use Rattle.asm_read.specs.Checks.{place_in, statements_in}
use Rattle.asm_read.specs.Labels.{place, size}
use Rattle.asm_read.proofs.labels.label_places.Given as goal

abbrev pub invariant-loop-line : goal.invariant-loop-line
invariant-loop-line l = record {
  places : (q : List ℕ) → place_in l.places q ≡ place (statements_in (take l.line-index l.lines)) q;
  before : l.before ≡ size (statements_in (take l.line-index l.lines));
  few : l.before ≤ l.line-index;
}
