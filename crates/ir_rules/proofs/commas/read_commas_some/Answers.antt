use Rattle.std.proofs.Common.{refl, rules, subst}
use Rattle.ir_words.specs.declared.class.Class.TheVariants as class
use Rattle.ir_rules.specs.Reading.{Gives}
use Rattle.ir_rules.specs.Rules.{◌▷◌}
use Rattle.ir_rules.proofs.Repeats.{first_and_each}
use Rattle.ir_rules.proofs.Words.{before_law}
use Rattle.ir_rules.proofs.commas.read_commas_some.Goals as goal

pub append_each-requires-clause-law : goal.append_each-requires-clause-law
append_each-requires-clause-law g c = before_law class.Comma _ refl refl c.requires.law

pub returns : goal.returns
returns g c =
    subst (Gives (λ x. (x.0.items, x.1)) c.append_each.result)
    (first_and_each (g.E.Element.rule c.args.element.now) (class.Comma ▷ g.E.Element.rule c.args.element.now) c.in_ok-first.first c.args.rest c.in_ok-first.rest (search rules) c.push.new.self.items (search rules))
    c.append_each.ensures
