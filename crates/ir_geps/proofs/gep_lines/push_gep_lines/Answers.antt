use Rattle.std.proofs.Common.{rules, ◌≡◌, ◌++◌, OnOk, subst}
use Rattle.ir_geps.specs.GepLines.{gep_lines_by}
use Rattle.ir_geps.proofs.gep_lines.push_gep_lines.Goals as goal

pub returns : goal.returns
returns c =
    let same : c.in_ok-new.field-0 ≡ c.args.m.now.types = search rules in
    subst (λ types. OnOk c.push_broken.result (c.push_broken.new.lines.items ≡ c.args.lines.now.items ++ gep_lines_by types c.args.m.now)) same c.push_broken.ensures
