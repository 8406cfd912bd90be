use Rattle.std.proofs.Common.{◌≡◌, length, map}
use Rattle.ir_call_rules.specs.Intrinsics.{integer_in}
use Rattle.ir_call_rules.proofs.spelling.integer_in.Given as goal

abbrev pub invariant-loop-table : goal.invariant-loop-table
invariant-loop-table l = integer_in (map (λ k. (k.0.now, k.1)) l.table) l.name ≡ integer_in (map (λ k. (k.0.now, k.1)) l.initial.table) l.name

abbrev pub decreases-loop-table : goal.decreases-loop-table
decreases-loop-table l = length l.table
