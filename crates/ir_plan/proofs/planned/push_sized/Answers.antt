use Rattle.std.proofs.Common.{arith, ap, map, take, ◌∙◌, ◌++◌, ◌≡◌, [], option_map}
use Rattle.std.specs.List.{cons_option}
use Rattle.std.proofs.lemmas.List.{append_assoc}
use Rattle.ir_plan.proofs.PlannedLemmas.{planned-more}
use Rattle.ir_plan.specs.Planned.{planned}
use Rattle.ir_sizes.specs.Sized.{sized_tree}
use Rattle.ty_core.specs.Tree.{tree_of}
use Rattle.ir_plan.proofs.planned.push_sized.Goals as goal

pub loop-mention-preserved : goal.loop-mention-preserved
loop-mention-preserved c =
    let defs = c.args.named.now in
    let tree : option_map tree_of c.in_ok-ty.ty ≡ sized_tree defs c.mention-item.result = c.in_ok-ty.ensures ∙ ap (sized_tree defs) c.ty.ensures in
    c.in_ok-push_some.ensures
    ∙ (λ k. c.loop-mention.invariant k ++ cons_option (tree k) [])
    ∙ append_assoc (map tree_of c.args.types.now.items) (planned defs (take c.loop-mention.mention-index c.args.written.now)) _
    ∙ ap (λ trees. map tree_of c.args.types.now.items ++ trees)
    (planned-more defs c.args.written.now c.loop-mention.mention-index c.mention-item.result (omega arith) c.mention-item.is)
