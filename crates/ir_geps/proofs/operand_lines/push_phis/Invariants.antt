use Rattle.std.proofs.Common.{◌≡◌, ◌++◌, flat_map, take}
use Rattle.ir_geps.specs.OperandLines.{phi_lines}
use Rattle.ir_geps.proofs.operand_lines.push_phis.Given as goal

abbrev pub invariant-loop-phi : goal.invariant-loop-phi
invariant-loop-phi g l = l.lines.items ≡ l.initial.lines.items ++ flat_map (phi_lines (g.R.OperandRule.breaks l.rule)) (take l.phi-index l.phis)
