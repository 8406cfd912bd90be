use Rattle.std.proofs.Common.{◌≡◌, ◌∙◌, ap, arith}
use Rattle.std.specs.Int.{div_ceil}
use Rattle.ty_core.specs.Size.{bytes_of, least_power}
use Rattle.ty_core.proofs.Alignments.{is_least_power}
use Rattle.ty_core.proofs.measure.integer_layout.Goals as goal

pub returns-clause-align : goal.returns-clause-align
returns-clause-align c =
    let size : c.div_ceil-size.result ≡ bytes_of c.args.bits = c.div_ceil-size.ensures ∙ ap (λ bits. div_ceil bits 8) c.from.ensures in
    is_least_power _ _ (omega (arith, size, c.ranges.bits)) c.next_power_of_two.ensures.power
    c.next_power_of_two.ensures.lower_bound c.next_power_of_two.ensures.upper_bound ∙ ap least_power size
