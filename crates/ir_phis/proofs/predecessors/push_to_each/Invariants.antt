use Rattle.std.proofs.Common.{◌≡◌, ◌<◌, ◌++◌, [], ℕ, get_or, length, take}
use Rattle.ir_phis.specs.Predecessors.{edges_from}
use Rattle.ir_phis.proofs.predecessors.push_to_each.Given as goal

abbrev pub invariant-loop-to : goal.invariant-loop-to
invariant-loop-to l = record {
  sized : length l.all.items ≡ length l.initial.all.items;
  told : (place : ℕ) → place < length l.initial.all.items → get_or l.all.items place []
      ≡ get_or l.initial.all.items place [] ++ edges_from place l.from (take l.to-index l.successors);
}
