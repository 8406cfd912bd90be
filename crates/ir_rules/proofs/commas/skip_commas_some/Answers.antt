use Rattle.std.proofs.Common.{refl, rules, subst}
use Rattle.ir_words.specs.declared.class.Class.TheVariants as class
use Rattle.ir_rules.specs.Reading.{GivesUnless}
use Rattle.ir_rules.specs.Rules.{◌▷◌}
use Rattle.ir_rules.proofs.Repeats.{first_and_skipped}
use Rattle.ir_rules.proofs.Words.{before_law}
use Rattle.ir_rules.proofs.commas.skip_commas_some.Goals as goal

pub skip_each-requires-clause-law : goal.skip_each-requires-clause-law
skip_each-requires-clause-law g c = before_law class.Comma _ refl refl c.requires.law

pub returns : goal.returns
returns g c =
    subst (GivesUnless g.E.Element.takes_memory (λ rest. (tt {0}, rest)) c.skip_each.result)
    (first_and_skipped (g.E.Element.rule c.args.element.now) (class.Comma ▷ g.E.Element.rule c.args.element.now) c.in_ok-first.first c.args.rest c.in_ok-first.rest (search rules))
    c.skip_each.ensures
