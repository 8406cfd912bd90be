use Rattle.std.proofs.Common.{◌<◌, ◌∙◌, ap, arith, length, refl, slice_get, sym}
use Rattle.std.proofs.lemmas.Option.{slice_get_read}
use Rattle.ir_given.proofs.RankLemmas.{some_rank_below}
use Rattle.ir_given.specs.Given.{alias_rank}
use Rattle.ir_given.proofs.symbol.given_at.Goals as goal

pub swap_remove-requires : goal.swap_remove-requires
swap_remove-requires c =
    omega (arith, some_rank_below c.args.m.now c.args.place c.requires, c.in_ok-given.ensures.count, c.in_ok-rank.ensures)

pub returns : goal.returns
returns c =
    let inside : c.in_ok-rank.rank < length c.in_ok-given.given.items =
    omega (arith, some_rank_below c.args.m.now c.args.place c.requires, c.in_ok-given.ensures.count, c.in_ok-rank.ensures) in
    sym (slice_get_read c.in_ok-given.given.items _ c.in_ok-rank.rank c.swap_remove.result refl inside c.swap_remove.ensures.value)
    ∙ ap (slice_get c.in_ok-given.given.items) c.in_ok-rank.ensures
    ∙ ap (λ names. slice_get names (alias_rank c.args.m.now c.args.place)) c.in_ok-given.ensures.names
