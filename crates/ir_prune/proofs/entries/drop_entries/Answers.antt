use Rattle.std.proofs.Common.{◌∙◌, map}
use Rattle.ir_prune.specs.Pruned.{block_without}
use Rattle.ir_prune.proofs.entries.drop_entries.Goals as goal

pub returns : goal.returns
returns c =
    c.drop_from_blocks.ensures
    ∙ (λ k. map (block_without (λ name. c.in_ok-labels.ensures name k)) c.args.blocks.now)
