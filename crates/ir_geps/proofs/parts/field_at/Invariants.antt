use Rattle.std.proofs.Common.{◌≡◌}
use Rattle.ir_geps.specs.Ranges.{field_at}
use Rattle.ir_syntax.specs.Types.{trees_in}
use Rattle.ir_geps.proofs.parts.field_at.Given as goal

abbrev pub invariant-loop-rest : goal.invariant-loop-rest
invariant-loop-rest l = field_at (trees_in l.rest) l.left ≡ field_at (trees_in l.initial.rest) l.initial.left
