use Rattle.std.proofs.Common.{◌∷◌, []}
use Rattle.ir_words.specs.declared.class.Class.TheVariants as class
use Rattle.ir_rules.proofs.Sets.{in_either}
use Rattle.ir_ops.specs.Operations.{op_firsts}
use Rattle.ir_body.proofs.statements.begins_statement.Goals as goal

pub returns : goal.returns
returns c = in_either (class.Local ∷ class.Phi ∷ class.Alloca ∷ []) op_firsts c.args.class _ _ c.begins_other_statement.ensures c.begins_op.ensures
