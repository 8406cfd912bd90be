use Rattle.std.proofs.Common.{◌≡◌, ℕ, Ok, length}
use Rattle.ir_items.specs.Entities.{entities}
use Rattle.ir_items.proofs.Walks.{after_items}
use Rattle.ir_items.proofs.first_block.is_in_first_block.Given as goal

abbrev pub invariant-loop-rest : goal.invariant-loop-rest
invariant-loop-rest l = (n : ℕ) × (after_items entities n l.fn.rest ≡ Ok l.rest)

abbrev pub decreases-loop-rest : goal.decreases-loop-rest
decreases-loop-rest l = length l.rest
