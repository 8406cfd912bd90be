use Rattle.std.proofs.Common.{◌≡◌, take}
use Rattle.std.specs.List.{list_any}
use Rattle.ir_geps.proofs.operand_lines.is_any_broken.Given as goal

abbrev pub invariant-loop-site : goal.invariant-loop-site
invariant-loop-site g l = l.broken ≡ list_any (g.R.OperandRule.breaks l.rule) (take l.site-index l.sites)
