use Rattle.std.proofs.Common.{◌∙◌, ap, is_some, rules}
use Rattle.ir_sizes.proofs.RoundLemmas.{is_some-by_table}
use Rattle.ir_sizes.specs.Measured.{IsTable}
use Rattle.ir_sizes.specs.Sized.{level_limit}
use Rattle.ir_sizes.proofs.named.NamedTypes.is_sized.Goals as goal

pub returns : goal.returns
returns c =
    let is : IsTable c.args.self.now level_limit c.self.inside.table = search rules in
    c.is_some.ensures ∙ ap is_some c.extent_of.ensures.value ∙ is_some-by_table c.args.self.now c.self.inside.table c.args.ty.now is
