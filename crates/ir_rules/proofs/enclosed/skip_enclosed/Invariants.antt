use Rattle.std.proofs.Common.{◌≡◌, length, reverse}
use Rattle.ir_rules.specs.Balance.{enclosed, skip_to}
use Rattle.ir_rules.proofs.enclosed.skip_enclosed.Given as goal

abbrev pub invariant-loop-last : goal.invariant-loop-last
invariant-loop-last l = skip_to (reverse l.awaited.items) l.rest ≡ (enclosed l.fn.bracket).read l.fn.rest

abbrev pub decreases-loop-last : goal.decreases-loop-last
decreases-loop-last l = length l.rest
