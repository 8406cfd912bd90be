use Rattle.std.proofs.Common.{◌≡◌, ◌++◌, take, flat_map}
use Rattle.ir_entities.specs.OperandUses.{literal_uses}
use Rattle.ir_entities.proofs.uses.operands.push_literals.Given as goal

abbrev pub invariant-loop-literal : goal.invariant-loop-literal
invariant-loop-literal l = l.sites.items ≡ l.initial.sites.items ++ flat_map literal_uses (take l.literal-index l.literals)
