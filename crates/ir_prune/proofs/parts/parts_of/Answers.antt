use Rattle.std.proofs.Common.{arith, length, drop, ap, ◌∙◌, ◌<◌, ◌≡◌, ◌++◌, []}
use Rattle.std.proofs.lemmas.List.{nil_from_length}
use Rattle.std.specs.Vec.Iter.{into_iter_items}
use Rattle.ir_cfg.specs.Reached.{marked}
use Rattle.ir_prune.proofs.PartLemmas.{marked_more, unmarked_more, marked_end, unmarked_end}
use Rattle.ir_prune.specs.Pruned.{unmarked}
use Rattle.ir_prune.proofs.parts.parts_of.Goals as goal
use Rattle.ir_prune.proofs.parts.parts_of.Goals.{in-Some+in_ok-push, in_default}

pub loop-is_kept-preserved : goal.loop-is_kept-preserved
loop-is_kept-preserved c =
    let i = c.loop-is_kept.is_kept-index in
    let marks = c.args.marks.now in
    let inside : i < length marks = omega arith in
    elim c.match-next.branch [
      | in-Some+in_ok-push w ↦ record {
        kept = marked_more marks i w.in-Some.block _ _ _ _ _ inside w.in-Some.ensures.items c.loop-is_kept.invariant.kept
            (ap (λ p. p.kept.items) w.parts-is ∙ w.in_ok-push.ensures.kept);
        dropped = unmarked_more marks i w.in-Some.block _ _ _ _ _ inside w.in-Some.ensures.items c.loop-is_kept.invariant.dropped
            (ap (λ p. p.dropped.items) w.parts-is ∙ w.in_ok-push.ensures.dropped);
      }
      | in_default w ↦
          let none : into_iter_items c.next.new.self ≡ [] = nil_from_length _ (omega (arith, w.in_default.ensures.cases.1)) in
          record {
            kept = marked_end _ _ _ _ _ _ (w.in_default.ensures.items ∙ none) none
                (ap (λ p. p.kept.items ++ marked (drop i marks) (into_iter_items c.loop-is_kept.rest)) w.parts-is ∙ c.loop-is_kept.invariant.kept);
            dropped = unmarked_end _ _ _ _ _ _ (w.in_default.ensures.items ∙ none) none
                (ap (λ p. p.dropped.items ++ unmarked (drop i marks) (into_iter_items c.loop-is_kept.rest)) w.parts-is ∙ c.loop-is_kept.invariant.dropped);
          }
    ]
