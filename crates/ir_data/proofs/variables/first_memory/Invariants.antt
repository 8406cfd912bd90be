use Rattle.std.proofs.Common.{◌≡◌, drop}
use Rattle.std.specs.List.{filter}
use Rattle.ir_loaded.specs.Pairs.{loaded}
use Rattle.ir_sem.specs.Addresses.{has_init}
use Rattle.ir_sem.specs.Globals.{are_placeable, global_blocks, is_placeable, with_globals}
use Rattle.ir_data.proofs.variables.first_memory.Given as goal

abbrev pub invariant-loop-variable : goal.invariant-loop-variable
invariant-loop-variable l = record {
  left : with_globals (loaded l.l) (filter has_init (drop l.variable-index l.variable-items)) l.bases l.memory ≡ global_blocks (loaded l.l);
  placeable : are_placeable (loaded l.l) (filter has_init (drop l.variable-index l.variable-items)) l.bases l.memory ≡ is_placeable (loaded l.l);
}
