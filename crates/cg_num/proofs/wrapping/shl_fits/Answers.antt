use Rattle.std.specs.Prelude.{◌/◌, ◌^◌, nat_le}
use Rattle.std.proofs.Common.{ap, ◌∙◌}
use Rattle.std.proofs.lemmas.Nat.{pow_pos}
use Rattle.cg_num.proofs.ShiftLemmas.{shifted_below}
use Rattle.cg_num.proofs.wrapping.shl_fits.Goals as goal

pub returns : goal.returns
returns c =
    ap (λ g. nat_le c.args.a (g / 2 ^ c.args.by)) c.greatest.ensures
    ∙ shifted_below c.args.a (2 ^ c.args.bits) (2 ^ c.args.by) (pow_pos c.args.by) (pow_pos c.args.bits)
