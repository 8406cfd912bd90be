use Rattle.std.proofs.Common.{◌≡◌, ◌++◌, ◌∙◌, ap, rules}
use Rattle.ir_check.specs.Faults.{use_lines}
use Rattle.ir_check.proofs.faults.type_lines.Goals as goal

pub returns : goal.returns
returns c =
    let lines : c.push_use_lines.new.lines.items ≡ c.in_ok-lines.lines.items ++ use_lines c.in_ok-ends.ends = search rules in
    lines ∙ ap (λ uses. c.in_ok-lines.lines.items ++ uses) (ap use_lines c.in_ok-ends.ensures) ∙ ap (λ states. states ++ use_lines c.args.m.now) c.in_ok-lines.ensures
