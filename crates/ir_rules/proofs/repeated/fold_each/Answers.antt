use Rattle.std.proofs.Common.{ap, rules}
use Rattle.std.specs.Prelude.{fold}
use Rattle.ir_rules.proofs.Repeats.{each_steps}
use Rattle.ir_rules.proofs.repeated.fold_each.Goals as goal

pub loop-rest-preserved : goal.loop-rest-preserved
loop-rest-preserved g c =
    each_steps (g.F.Element.rule c.args.element.now) c.requires.law c.requires.some (λ found. fold g.F.Fold.next c.loop-rest.all found)
    (λ found. fold g.F.Fold.next c.next-all.result found) c.in_ok-tree.tree c.loop-rest.rest c.in_ok-tree.after _
    (λ found. ap (λ all. fold g.F.Fold.next all found) (search rules)) (search rules) (search rules) c.loop-rest.invariant
