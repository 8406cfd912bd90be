use Rattle.std.proofs.Common.{◌++◌, ◌∷◌, []}
use Rattle.ir_words.specs.declared.class.Class.TheVariants as class
use Rattle.ir_rules.proofs.Sets.{in_either}
use Rattle.ir_terms.specs.Terms.{term_firsts}
use Rattle.ir_body.specs.Blocks.{statement_firsts}
use Rattle.ir_body.proofs.blocks.begins_block.Goals as goal

pub returns : goal.returns
returns c =
    in_either (class.Label ∷ term_firsts) statement_firsts c.args.class _ _
    (in_either (class.Label ∷ []) term_firsts c.args.class _ _ c.is_label.ensures c.begins_term.ensures) c.begins_statement.ensures
