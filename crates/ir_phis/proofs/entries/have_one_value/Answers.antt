use Rattle.std.proofs.Common.{◌∙◌, ap}
use Rattle.ir_phis.specs.Entries.{have_values_of}
use Rattle.ir_phis.proofs.entries.have_one_value.Goals as goal

pub returns : goal.returns
returns c =
    c.have_values_of.ensures
    ∙ ap (λ known. have_values_of known c.args.ty.now c.args.entries.now c.args.entries.now) (λ k name. c.in_ok-first.ensures name k)
