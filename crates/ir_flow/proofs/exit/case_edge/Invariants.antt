use Rattle.std.proofs.Common.{◌≡◌, drop}
use Rattle.ir_flow.specs.Exits.{case_edge}
use Rattle.ir_flow.proofs.exit.case_edge.Given as goal

abbrev pub invariant-loop-case : goal.invariant-loop-case
invariant-loop-case l = case_edge l.number l.default (drop l.case-index l.cases) ≡ case_edge l.number l.default l.cases
