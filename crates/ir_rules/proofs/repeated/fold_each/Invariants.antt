use Rattle.std.proofs.Common.{◌≡◌, length}
use Rattle.std.specs.Prelude.{fold}
use Rattle.ir_rules.specs.Repeats.{into}
use Rattle.ir_rules.specs.Rules.{each}
use Rattle.ir_rules.proofs.repeated.fold_each.Given as goal

abbrev pub invariant-loop-rest : goal.invariant-loop-rest
invariant-loop-rest g l =
    into (λ found. fold g.F.Fold.next l.all found) ((each (g.F.Element.rule l.element)).read l.rest)
    ≡ into (λ found. fold g.F.Fold.next l.fn.all found) ((each (g.F.Element.rule l.element)).read l.fn.rest)

abbrev pub decreases-loop-rest : goal.decreases-loop-rest
decreases-loop-rest g l = length l.rest
