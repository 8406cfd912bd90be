use Rattle.std.proofs.Common.{◌≡◌, length, map}
use Rattle.ir_words.specs.Words.{looked_up}
use Rattle.ir_words.proofs.word.looked_up.Given as goal

abbrev pub invariant-loop-table : goal.invariant-loop-table
invariant-loop-table l = looked_up (map (λ k. (k.0.now, k.1)) l.table) l.word l.other ≡ looked_up (map (λ k. (k.0.now, k.1)) l.initial.table) l.word l.other

abbrev pub decreases-loop-table : goal.decreases-loop-table
decreases-loop-table l = length l.table
