use Rattle.std.proofs.Common.{◌∙◌, ap, set, sym}
use Rattle.ir_sizes.proofs.PassLemmas.{becomes_known, set_measured, stays_known}
use Rattle.ir_sizes.specs.Measured.{extent_at}
use Rattle.ir_sizes.specs.Passes.{known_or}
use Rattle.ir_sizes.proofs.rounds.measure.Goals as goal

pub returns-then-is_some-clause-extents : goal.returns-then-is_some-clause-extents
returns-then-is_some-clause-extents c =
    stays_known _ c.args.place c.index.result.now _ c.requires.inside c.index.ensures (sym c.is_some.ensures ∙ c.if-is_some.true)

pub returns-clause-extents : goal.returns-clause-extents
returns-clause-extents c =
    becomes_known _ c.args.place c.index.result.now _ c.requires.inside c.index.ensures (sym c.is_some.ensures ∙ c.if-is_some.false)
    ∙ ap (λ new. set c.args.table.now.extents.items c.args.place (known_or (extent_at c.args.table.now.extents.items c.args.place) new)) c.body_extent-extent.ensures.value

pub returns-clause-measured : goal.returns-clause-measured
returns-clause-measured c = set_measured _ c.args.place _ c.requires.inside c.requires.measured c.body_extent-extent.ensures.measured
