use Rattle.std.proofs.Common.{rules, refl}
use Rattle.ir_rules.proofs.Repeats.{each_ended, each_fails, each_steps}
use Rattle.ir_rules.proofs.Whole.{read_shorter}
use Rattle.ir_rules.proofs.repeated.skip_each.Goals as goal

pub returns-in_err-tree : goal.returns-in_err-tree
returns-in_err-tree g c =
    each_fails (g.E.Element.rule c.args.element.now) c.requires.law c.requires.some (λ xs. tt) c.loop-rest.rest _ g.E.Element.takes_memory _ (λ m. m)
    (λ x. x) _ c.in_err-tree.field-0.0 _ (search rules) c.loop-rest.invariant (search rules) (search rules)

pub loop-rest-smaller : goal.loop-rest-smaller
loop-rest-smaller g c =
    read_shorter (g.E.Element.rule c.args.element.now) c.requires.law c.requires.some c.loop-rest.rest (c.in_ok-tree.tree, c.in_ok-tree.after) (search rules)

pub loop-rest-preserved : goal.loop-rest-preserved
loop-rest-preserved g c =
    each_steps (g.E.Element.rule c.args.element.now) c.requires.law c.requires.some (λ xs. tt) (λ xs. tt) c.in_ok-tree.tree
    c.loop-rest.rest c.in_ok-tree.after _ (λ xs. refl) (search rules) (search rules) c.loop-rest.invariant

pub returns : goal.returns
returns g c =
    each_ended (g.E.Element.rule c.args.element.now) c.requires.law c.requires.some (λ xs. tt) c.loop-rest.rest _ c.loop-rest.invariant (search rules)
