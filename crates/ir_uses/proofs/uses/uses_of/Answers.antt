use Rattle.std.proofs.Common.{◌∙◌, ◌++◌, ap, arith}
use Rattle.ir_ident.specs.NameMaps.{value_of}
use Rattle.ir_uses.proofs.NumberedLemmas.{numbered-more}
use Rattle.ir_uses.specs.Uses.{block_uses}
use Rattle.ir_uses.proofs.uses.uses_of.Goals as goal

pub loop-place-preserved : goal.loop-place-preserved
loop-place-preserved c =
    let here = block_uses (value_of c.args.places.now) c.args.blocks.now in
    c.in_ok-push_block.ensures
    ∙ ap (λ before. before ++ here c.loop-place.place c.index-blocks-place.result) c.loop-place.invariant
    ∙ numbered-more here c.args.blocks.now c.loop-place.place c.index-blocks-place.result (omega arith) c.index-blocks-place.is
