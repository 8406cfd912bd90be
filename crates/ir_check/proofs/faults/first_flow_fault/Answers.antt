use Rattle.std.proofs.Common.{◌≡◌, ◌∙◌, ap, min, rules, subst, sym}
use Rattle.std.specs.List.{reduce}
use Rattle.ir_check.proofs.LesserLemmas.{least_with}
use Rattle.ir_check.specs.Faults.{IsFirstFlowFault}
use Rattle.ir_check.specs.Lesser.{lesser}
use Rattle.ir_defined.specs.Undefined.{IsUndefinedUse}
use Rattle.ir_phis.specs.Wrong.{phi_lines}
use Rattle.ir_check.proofs.faults.first_flow_fault.Goals as goal

pub returns : goal.returns
returns c =
    let lines : c.push_phi_lines.new.lines.items ≡ phi_lines c.args.m.now = search rules in
    subst (IsFirstFlowFault c.args.m.now)
    (sym (c.lesser.ensures ∙ ap (lesser c.in_ok-undefined.undefined) (c.least_line.ensures ∙ ap (reduce min) (c.as_slice.ensures.value ∙ lines))))
    (least_with (IsUndefinedUse c.args.m.now) (phi_lines c.args.m.now) c.in_ok-undefined.undefined c.in_ok-undefined.ensures)
