use Rattle.std.proofs.Common.{◌≡◌, ◌∙◌, ◌++◌, [], arith, ap, take, flat_map, if◌then◌else◌}
use Rattle.std.proofs.lemmas.List.{append_assoc}
use Rattle.ir_cfg.proofs.KeptLemmas.{flat-more}
use Rattle.ir_mentions.specs.PartTypes.{block_types}
use Rattle.ir_cfg.specs.Reached.{marked}
use Rattle.ir_cfg.specs.Searches.{mark_at}
use Rattle.ir_mentions.proofs.blocks.push_reachable_blocks.Goals as goal

pub loop-place-preserved : goal.loop-place-preserved
loop-place-preserved c =
    let kept : c.is_marked.result ≡ mark_at c.in_ok-marks.marks.items c.loop-place.place = c.is_marked.ensures ∙ ap (λ marks. mark_at marks c.loop-place.place) c.as_slice.ensures.value in
    c.in_ok-push_block_if.ensures
    ∙ (λ k. c.loop-place.invariant k ++ (if kept k then block_types c.index-blocks-place.result else []))
    ∙ append_assoc c.args.mentions.now.types.items (flat_map block_types (marked c.in_ok-marks.marks.items (take c.loop-place.place c.args.blocks.now))) _
    ∙ ap (λ ts. c.args.mentions.now.types.items ++ ts)
    (flat-more block_types c.in_ok-marks.marks.items c.args.blocks.now c.loop-place.place c.index-blocks-place.result (omega arith) c.index-blocks-place.is)
