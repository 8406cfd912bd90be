use Rattle.std.proofs.Common.{◌≡◌, ◌∙◌, Some, None, ap, rules}
use Rattle.ir_mentions.proofs.MentionLemmas.{places-by_table}
use Rattle.ir_sizes.specs.Measured.{known_by, measured}
use Rattle.ir_sizes.specs.Sized.{level_limit}
use Rattle.ir_mentions.proofs.places.type_places.Goals as goal

pub returns-in-Some : goal.returns-in-Some
returns-in-Some c = λ defs is.
    let same : c.mention.inside.ty.now ≡ c.args.mention.now = search rules in
    c.from.ensures
    ∙ places-by_table defs c.args.table.now c.args.mention.now (Some c.in-Some.extent) is
    (c.in-Some.ensures.value ∙ ap (measured (known_by c.args.table.now) level_limit) same)

pub returns-in-None : goal.returns-in-None
returns-in-None c = λ defs is.
    let same : c.mention.inside.ty.now ≡ c.args.mention.now = search rules in
    places-by_table defs c.args.table.now c.args.mention.now None is (c.in-None.ensures.value ∙ ap (measured (known_by c.args.table.now) level_limit) same)
