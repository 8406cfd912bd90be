use Rattle.std.proofs.Common.{◌≡◌, length}
use Rattle.ir_rules.specs.Repeats.{into}
use Rattle.ir_rules.specs.Rules.{dropped, each}
use Rattle.ir_rules.proofs.repeated.skip_each.Given as goal

abbrev pub invariant-loop-rest : goal.invariant-loop-rest
invariant-loop-rest g l =
    into (λ xs. tt) ((each (g.E.Element.rule l.element)).read l.rest) ≡ (dropped (g.E.Element.rule l.element)).read l.fn.rest

abbrev pub decreases-loop-rest : goal.decreases-loop-rest
decreases-loop-rest g l = length l.rest
