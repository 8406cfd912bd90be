use Rattle.std.proofs.Common.{◌≡◌, ◌++◌, List, ℕ, OnOk, subst}
use Rattle.ir_ident.specs.NameMaps.{value_of}
use Rattle.ir_op_rules.proofs.LocalLemmas.{lines-by_locals}
use Rattle.ir_sizes.specs.Sized.{layout_in}
use Rattle.ir_scope.specs.Locals.{local_scalar}
use Rattle.ir_op_rules.proofs.functions.push_parts.Goals as goal

pub returns : goal.returns
returns c =
    subst (λ (more : List ℕ). OnOk c.push_body.result (c.push_body.new.lines.items ≡ c.args.lines.now.items ++ more))
    (lines-by_locals (value_of c.in_ok-locals.locals) (local_scalar c.args.function.now) (layout_in c.args.types.now) c.args.function.now.result
    c.args.function.now.blocks c.in_ok-locals.ensures)
    c.push_body.ensures
