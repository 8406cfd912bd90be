use Rattle.std.proofs.Common.{◌≡◌, length}
use Rattle.ir_rules.specs.Repeats.{prefixed}
use Rattle.ir_rules.specs.Rules.{each}
use Rattle.ir_rules.proofs.repeated.append_each.Given as goal

abbrev pub invariant-loop-rest : goal.invariant-loop-rest
invariant-loop-rest g l =
    prefixed l.list.items ((each (g.E.Element.rule l.element)).read l.rest)
    ≡ prefixed l.fn.list.items ((each (g.E.Element.rule l.element)).read l.fn.rest)

abbrev pub decreases-loop-rest : goal.decreases-loop-rest
decreases-loop-rest g l = length l.rest
