use Rattle.std.proofs.Common.{◌∙◌, ◌++◌, ◌∷◌, ◌+◌, [], ap, arith, drop, inl, inr, sym}
use Rattle.ir_naming.specs.Items.{merged}
use Rattle.ir_naming.proofs.Merging.{takes_left, takes_rest, takes_right}
use Rattle.ir_naming.proofs.ordered.merged.Goals as goal
use Rattle.ir_naming.proofs.ordered.merged.Goals.{then-loop-taken-test+else-other-right, else-loop-taken-test}

pub loop-taken-preserved-then-is_before : goal.loop-taken-preserved-then-is_before
loop-taken-preserved-then-is_before c =
    let loop = c.loop-taken in
    record {
      left = omega arith;
      right = loop.invariant.right;
      merged = ap (λ l. l ++ merged (drop (loop.taken + 1) c.args.left.now) (drop loop.other c.args.right.now))
          (c.in_ok-push.ensures.items ∙ ap (λ x. loop.names.items ++ x ∷ []) c.copy.ensures)
          ∙ takes_left loop.names.items c.args.left.now c.args.right.now (merged c.args.left.now c.args.right.now) loop.taken loop.other
          c.index-left-taken.result c.index-right-other.result (omega arith) (omega arith) c.index-left-taken.is c.index-right-other.is (sym c.is_before.ensures ∙ c.if-is_before.true) loop.invariant.merged;
    }

pub loop-taken-preserved : goal.loop-taken-preserved
loop-taken-preserved c =
    let loop = c.loop-taken in
    record {
      left = loop.invariant.left;
      right = omega arith;
      merged = ap (λ l. l ++ merged (drop loop.taken c.args.left.now) (drop (loop.other + 1) c.args.right.now))
          (c.in_ok-push-2.ensures.items ∙ ap (λ x. loop.names.items ++ x ∷ []) c.copy-else-is_before.ensures)
          ∙ takes_right loop.names.items c.args.left.now c.args.right.now (merged c.args.left.now c.args.right.now) loop.taken loop.other
          c.index-left-taken.result c.index-right-other.result (omega arith) (omega arith) c.index-left-taken.is c.index-right-other.is (sym c.is_before.ensures ∙ c.if-is_before.false) loop.invariant.merged;
    }

pub returns : goal.returns
returns c =
    let loop = c.loop-taken in
    c.in_ok-push_all-2.ensures
    ∙ ap (λ l. c.push_all.new.names.items ++ l) c.rest_of-2.ensures
    ∙ ap (λ l. l ++ drop loop.other c.args.right.now) (c.in_ok-push_all.ensures ∙ ap (λ l. loop.names.items ++ l) c.rest_of.ensures)
    ∙ takes_rest loop.names.items c.args.left.now c.args.right.now (merged c.args.left.now c.args.right.now) loop.taken loop.other
    (elim c.loop-taken-test.branch [
      | then-loop-taken-test+else-other-right w ↦ inr (omega arith)
      | else-loop-taken-test w ↦ inl (omega arith)
    ])
    loop.invariant.merged
