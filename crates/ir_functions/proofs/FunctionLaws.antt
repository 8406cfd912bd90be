-- The rules of functions keep the laws.
use Rattle.std.proofs.Common.{true, false, List, ◌∷◌, refl}
use Rattle.ir_syntax.specs.declared.block.Block.{Block}
use Rattle.ir_words.specs.declared.class.Class.TheVariants as class
use Rattle.ir_rules.specs.Laws.{Lawful}
use Rattle.ir_rules.proofs.Chains.{each_lawful}
use Rattle.ir_rules.proofs.Derived.{dropped_lawful, option_lawful}
use Rattle.ir_rules.proofs.Laws.{made_lawful, seq_lawful, within_lawful}
use Rattle.ir_rules.proofs.Leaves.{ending_lawful, leading_lawful, lined_lawful}
use Rattle.ir_rules.proofs.Words.{after_law, before_law, word_law}
use Rattle.ir_attributes.proofs.AttributeLaws.{attachment_law}
use Rattle.ir_body.proofs.BlockLaws.{blocks_law}
use Rattle.ir_functions.specs.Functions.{block_lists, closed_block_forms, closed_blocks, declaration_forms, declaration_of, declarations, definition_forms, definition_of, definitions, opening_forms, openings}
use Rattle.ir_globals.proofs.HeadLaws.{linkage_law}
use Rattle.ir_prototypes.proofs.PrototypeLaws.{declared_signatures_law, defined_signatures_law, declared_ends_law, defined_ends_law}

pub block_lists_law : Lawful block_lists
block_lists_law =
    made_lawful (λ (z : Block × List Block). z.0 ∷ z.1) _ (seq_lawful _ _ (blocks_law true) (each_lawful _ (blocks_law false) refl refl) refl)

pub closed_blocks_law : Lawful closed_blocks
unfolding closed_block_forms
closed_blocks_law = within_lawful _ _ _ _ (after_law _ class.CloseCurly refl refl block_lists_law refl) refl refl refl

pub openings_law : Lawful openings
unfolding opening_forms
openings_law =
    within_lawful _ _ _ _ (lined_lawful _ (before_law class.Define _ refl refl (seq_lawful _ _ linkage_law
    (after_law _ class.OpenCurly refl refl (ending_lawful _ _ defined_signatures_law (dropped_lawful _ defined_ends_law refl refl) refl) refl) refl)) refl) refl refl refl

pub declarations_law : Lawful declarations
unfolding declaration_forms
declarations_law =
    within_lawful _ _ _ _ (made_lawful declaration_of _ (lined_lawful _ (before_law class.Declare _ refl refl
    (leading_lawful _ _ (dropped_lawful _ attachment_law refl refl) (leading_lawful _ _ (option_lawful _ (word_law class.External refl refl) refl)
    (ending_lawful _ _ declared_signatures_law (dropped_lawful _ declared_ends_law refl refl) refl) refl) refl)) refl)) refl refl refl

pub definitions_law : Lawful definitions
unfolding definition_forms
definitions_law = within_lawful _ _ _ _ (made_lawful definition_of _ (seq_lawful _ _ openings_law closed_blocks_law refl)) refl refl refl
