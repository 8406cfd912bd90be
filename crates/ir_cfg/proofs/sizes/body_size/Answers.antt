use Rattle.std.proofs.Common.{◌≡◌, ◌∙◌, ◌+◌, arith, ap, min, take, Bool, if◌then◌else◌}
use Rattle.std.specs.List.{sum_by}
use Rattle.ir_cfg.proofs.KeptLemmas.{size-more}
use Rattle.ir_cfg.specs.Capped.{capped}
use Rattle.ir_cfg.specs.Sizes.{block_size}
use Rattle.ir_cfg.specs.Reached.{marked}
use Rattle.ir_cfg.specs.Searches.{mark_at}
use Rattle.ir_cfg.proofs.sizes.body_size.Goals as goal

pub loop-place-preserved : goal.loop-place-preserved
loop-place-preserved c =
    let kept : c.is_marked.result ≡ mark_at c.in_ok-marks.marks.items c.loop-place.place = c.is_marked.ensures ∙ ap (λ marks. mark_at marks c.loop-place.place) c.as_slice.ensures.value in
    let more : c.saturating_add-size.result ≡ min (c.loop-place.size + c.size_if.result) 18446744073709551615 = c.saturating_add-size.ensures in
    more
    ∙ (λ k. min (c.loop-place.invariant k + c.size_if.ensures k) 18446744073709551615)
    ∙ ap
    (λ (here : Bool). min (capped (sum_by block_size (marked c.in_ok-marks.marks.items (take c.loop-place.place c.args.blocks.now))) + capped (if here then block_size c.index-blocks-place.result else 0)) 18446744073709551615)
    kept
    ∙ size-more block_size c.in_ok-marks.marks.items c.args.blocks.now c.loop-place.place c.index-blocks-place.result (omega arith) c.index-blocks-place.is
