use Rattle.std.proofs.Common.{◌≡◌, ◌<◌, [], ℕ, get_or, length}
use Rattle.ir_ident.specs.NameMaps.{value_of}
use Rattle.ir_phis.specs.Predecessors.{edges_before}
use Rattle.ir_phis.proofs.predecessors.predecessors.Given as goal

abbrev pub invariant-loop-from : goal.invariant-loop-from
invariant-loop-from l = record {
  sized : length l.all.items ≡ length l.blocks;
  told : (place : ℕ) → place < length l.blocks → get_or l.all.items place [] ≡ edges_before (value_of l.places) l.blocks place l.from;
}
