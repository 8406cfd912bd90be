use Rattle.std.proofs.Common.{◌≡◌, ◌++◌, flat_map, slice_get}
use Rattle.std.specs.List.{range_with_len}
use Rattle.ir_ident.specs.NameMaps.{value_of}
use Rattle.ir_phis.specs.Predecessors.{predecessors}
use Rattle.ir_phis.specs.Wrong.{wrong_in_block}
use Rattle.ir_phis.proofs.wrong.push_in_blocks.Given as goal

abbrev pub invariant-loop-place : goal.invariant-loop-place
invariant-loop-place l = l.lines.items ≡ l.initial.lines.items
    ++ flat_map (λ place. wrong_in_block (value_of l.places) (predecessors (value_of l.places) l.blocks place) (slice_get l.blocks place)) (range_with_len 0 l.place)
