use Rattle.std.proofs.Common.{◌≡◌, ◌++◌, ℕ, Option, subst}
use Rattle.std.specs.Prelude.{OnOk}
use Rattle.ir_ident.specs.declared.name.Name.{Name}
use Rattle.ir_phis.specs.Wrong.{wrong_in_blocks}
use Rattle.ir_phis.proofs.wrong.push_in_defined.Goals as goal

pub returns : goal.returns
returns c =
    subst (λ (known : Name → Option ℕ). OnOk c.push_in_blocks.result (c.push_in_blocks.new.lines.items ≡ c.args.lines.now.items ++ wrong_in_blocks known c.args.blocks.now))
    (λ k name. c.in_ok-places.ensures name k)
    c.push_in_blocks.ensures
