use Rattle.std.proofs.Common.{◌∙◌, ◌++◌, ◌∷◌, [], None, ap}
use Rattle.ir_sizes.proofs.PassLemmas.{one_more_none}
use Rattle.ir_sizes.proofs.rounds.no_extents.Goals as goal

pub loop-preserved : goal.loop-preserved
loop-preserved c = c.in_ok-push.ensures.items ∙ ap (λ xs. xs ++ None ∷ []) c.loop.invariant ∙ one_more_none None c.loop.counter
