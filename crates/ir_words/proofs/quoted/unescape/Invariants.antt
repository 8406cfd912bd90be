use Rattle.std.proofs.Common.{length, take, ◌++◌, ◌-◌, ◌≡◌, ◌≤◌}
use Rattle.ir_lex.specs.Escapes.{unescaped}
use Rattle.ir_lex.proofs.Unescaping.{left_of}
use Rattle.ir_words.proofs.quoted.unescape.Given as goal

abbrev pub invariant-loop-at : goal.invariant-loop-at
invariant-loop-at l = record {
  size : length l.name ≡ 40;
  room : l.len ≤ 40;
  kept : take l.len l.name ++ left_of l.quoted l.at ≡ unescaped l.quoted;
}

abbrev pub decreases-loop-at : goal.decreases-loop-at
decreases-loop-at l = length l.quoted - l.at
