use Rattle.std.proofs.Common.{◌∙◌, ap, is_some}
use Rattle.ir_sizes.proofs.RoundLemmas.{is_some-by_table}
use Rattle.ir_sizes.proofs.sized.is_sized.Goals as goal

pub returns : goal.returns
returns c = λ defs is.
    c.is_some.ensures ∙ ap is_some c.extent_of.ensures.value ∙ is_some-by_table defs c.args.table.now _ is
