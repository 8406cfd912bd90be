-- The rules of blocks keep the laws.
use Rattle.std.proofs.Common.{◌≡◌, Bool, refl}
use Rattle.std.specs.Prelude.{Option}
use Rattle.ir_syntax.specs.declared.instr.Op.{Op}
use Rattle.ir_body.specs.declared.statement.PhiOrOp.TheVariants as form
use Rattle.ir_body.specs.declared.statement.Place.{Place}
use Rattle.ir_body.specs.declared.statement.Place.TheVariants as place
use Rattle.ir_words.specs.declared.class.Class.TheVariants as class
use Rattle.ir_rules.specs.Laws.{Lawful}
use Rattle.ir_rules.proofs.Chains.{chain_lawful}
use Rattle.ir_rules.proofs.Derived.{option_lawful}
use Rattle.ir_rules.proofs.Laws.{either_lawful, made_lawful, seq_lawful, within_lawful}
use Rattle.ir_rules.proofs.Leaves.{leaf_lawful, lined_lawful}
use Rattle.ir_rules.proofs.Examples.{example}
use Rattle.ir_rules.proofs.Words.{after_law}
use Rattle.ir_body.specs.Blocks.{after_statement, block_forms, block_of, blocks, phi_or_ops, first_place, labels, parts_in, phi_or_op, phi_or_op_forms, results, statement_forms, statement_lists, statement_of, statement_firsts, statements}
use Rattle.ir_terms.specs.Phis.{PhiParts}
use Rattle.ir_terms.proofs.PhiLaws.{phis_law}
use Rattle.ir_types.specs.Names.{name_of}
use Rattle.ir_ops.specs.Operations.{op_flast}
use Rattle.ir_ops.proofs.OperationLaws.{entry_ops_law, plain_ops_law}
use Rattle.ir_terms.proofs.TermLaws.{terms_law}
use Rattle.ir_types.proofs.TypeLaws.{local_names_law}

pub results_law : Lawful results
results_law = after_law _ class.Equal refl refl local_names_law refl

phi_or_op_law : Lawful phi_or_op
unfolding phi_or_op_forms
phi_or_op_law =
    within_lawful _ _ _ _ (either_lawful _ _ (made_lawful (λ (p : PhiParts). form.Phi p.0 p.1) _ phis_law)
    (made_lawful (λ (op : Option Op). form.Op op) _ plain_ops_law) refl refl) refl refl refl

pub phi_or_ops_law : (at : Place) → Lawful (phi_or_ops at)
unfolding phi_or_ops
phi_or_ops_law place.Entry = within_lawful _ _ _ _ (made_lawful (λ (op : Option Op). form.Op op) _ entry_ops_law) refl refl refl
phi_or_ops_law place.PhisOnly = phi_or_op_law
phi_or_ops_law place.AfterPhis = within_lawful _ _ _ _ (made_lawful (λ (op : Option Op). form.Op op) _ plain_ops_law) refl refl refl

pub statements_law : (at : Place) → Lawful (statements at)
unfolding statement_forms phi_or_ops
statements_law place.Entry = within_lawful _ _ _ _ (made_lawful statement_of _ (lined_lawful _ (seq_lawful _ _ (option_lawful _ results_law refl) (phi_or_ops_law place.Entry) refl) refl)) refl refl refl
statements_law place.PhisOnly = within_lawful _ _ _ _ (made_lawful statement_of _ (lined_lawful _ (seq_lawful _ _ (option_lawful _ results_law refl) (phi_or_ops_law place.PhisOnly) refl) refl)) refl refl refl
statements_law place.AfterPhis = within_lawful _ _ _ _ (made_lawful statement_of _ (lined_lawful _ (seq_lawful _ _ (option_lawful _ results_law refl) (phi_or_ops_law place.AfterPhis) refl) refl)) refl refl refl

pub statement_lists_law : (at : Place) → Lawful (statement_lists at)
unfolding statement_lists
statement_lists_law at =
    chain_lawful statement_firsts op_flast statements after_statement statements_law (λ p. refl) (λ p. refl) (λ p. refl) refl at

labels_law : Lawful labels
unfolding name_of
labels_law = leaf_lawful _ _ (example class.Label) _ refl

pub blocks_law : (first : Bool) → Lawful (blocks first)
unfolding block_forms statement_lists
blocks_law first =
    within_lawful _ _ _ _ (made_lawful block_of _ (lined_lawful _ (seq_lawful _ _ (option_lawful _ labels_law refl)
    (seq_lawful _ _ (made_lawful parts_in _ (statement_lists_law (first_place first))) terms_law refl) refl) refl)) refl refl refl
