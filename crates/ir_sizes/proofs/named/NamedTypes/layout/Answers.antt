use Rattle.std.proofs.Common.{rules, ◌∙◌, None, Some}
use Rattle.ir_sizes.proofs.LayoutLemmas.{layout_by_table}
use Rattle.ir_sizes.specs.Measured.{IsTable}
use Rattle.ir_sizes.specs.Sized.{level_limit}
use Rattle.ir_syntax.specs.Types.{tree_of}
use Rattle.ir_sizes.proofs.named.NamedTypes.layout.Goals as goal

pub returns-in_err-extent-clause-value : goal.returns-in_err-extent-clause-value
returns-in_err-extent-clause-value c =
    let is : IsTable c.args.self.now level_limit c.self.inside.table = search rules in
    c.from_residual.ensures ∙ layout_by_table c.args.self.now c.self.inside.table (tree_of c.args.ty.now) None is (search rules)

pub returns-clause-value : goal.returns-clause-value
returns-clause-value c =
    let is : IsTable c.args.self.now level_limit c.self.inside.table = search rules in
    layout_by_table c.args.self.now c.self.inside.table (tree_of c.args.ty.now) (Some c.in_ok-extent.extent) is (search rules)
