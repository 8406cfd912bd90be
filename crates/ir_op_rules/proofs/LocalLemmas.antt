-- The lines of a body, by other names for the types of its values.
use Rattle.std.proofs.Common.{◌≡◌, ap, Option, List}
use Rattle.ir_ident.specs.declared.name.Name.{Name}
use Rattle.ir_op_rules.specs.OpLines.{body_lines}
use Rattle.ir_scope.specs.declared.scalar.Scalar.{Scalar}
use Rattle.ir_syntax.specs.Types.{TextTree}
use Rattle.ir_syntax.specs.declared.block.Block.{Block}
use Rattle.ty_core.specs.declared.extent.Layout.{Layout}

pub lines-by_locals : (known locals : Name → Option Scalar) (layouts : TextTree → Option Layout) (result : Option TextTree) (blocks : Option (List Block)) →
    ((name : Name) → known name ≡ locals name) → body_lines known layouts result blocks ≡ body_lines locals layouts result blocks
lines-by_locals known locals layouts result blocks same =
    ap (λ (names : Name → Option Scalar). body_lines names layouts result blocks) (λ k name. same name k)
