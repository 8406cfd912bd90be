use Rattle.std.proofs.Common.{◌≡◌, drop}
use Rattle.ir_op_rules.specs.Switches.{all_differ, case_values, differ_after}
use Rattle.ir_op_rules.proofs.switches.all_differ.Given as goal

abbrev pub invariant-loop-case : goal.invariant-loop-case
invariant-loop-case l = differ_after l.seen.keys (case_values l.bits (drop l.case-index l.cases)) ≡ all_differ (case_values l.bits l.cases)
