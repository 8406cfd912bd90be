-- The rules of what a function says before its body keep the laws.
use Rattle.std.proofs.Common.{◌≡◌, ℕ, Bool, true, false, [], ◌∷◌, Some, None, refl}
use Rattle.std.specs.Prelude.{Option}
use Rattle.ir_syntax.specs.Types.{TextTree}
use Rattle.ir_words.specs.Intrinsics.{begins_with, global_class, global_name, intrinsic_class, name_class}
use Rattle.ir_words.specs.declared.class.Class.TheVariants as class
use Rattle.ir_rules.specs.Laws.{Lawful}
use Rattle.ir_rules.specs.Rules.{◌▷◌}
use Rattle.ir_rules.proofs.Derived.{commas_lawful, option_lawful}
use Rattle.ir_rules.proofs.Laws.{either_lawful, made_lawful, seq_lawful, within_lawful}
use Rattle.ir_rules.proofs.Leaves.{leading_lawful, leaf_lawful, lined_lawful}
use Rattle.ir_rules.proofs.Examples.{example}
use Rattle.ir_rules.proofs.Words.{after_law, before_law, means_law, word_law}
use Rattle.ir_types.specs.Names.{name_of, use_of}
use Rattle.ir_values.specs.Values.{global_uses_in}
use Rattle.ir_attributes.proofs.AttributeLaws.{an_attribute_law, attachment_law, attributes_law}
use Rattle.ir_types.proofs.TypeLaws.{local_names_law, result_types_law, types_law}
use Rattle.ir_values.proofs.ValueLaws.{global_uses_law}
use Rattle.ir_prototypes.specs.Prototypes.{bracketed, declared_end_forms, declared_ends, declared_name_forms, declared_names, declared_signatures, defined_end_forms, defined_ends, defined_name_forms, defined_names, defined_signatures, metadata_param_forms, metadata_params, param_forms, param_name_forms, param_names, param_of, params, params_in, signature_forms}
use Rattle.ir_globals.proofs.HeadLaws.{visibility_law}

pub param_names_law : Lawful param_names
unfolding param_name_forms
param_names_law = within_lawful _ _ _ _ (seq_lawful _ _ attributes_law (option_lawful _ (lined_lawful _ local_names_law refl) refl) refl) refl refl refl

pub params_law : Lawful params
unfolding param_forms
params_law =
    within_lawful _ _ _ _ (made_lawful param_of _ (lined_lawful _ (seq_lawful _ _ (made_lawful (λ (t : TextTree). Some t) _ (types_law 64)) param_names_law refl) refl)) refl refl refl

pub metadata_params_law : Lawful metadata_params
unfolding metadata_param_forms
metadata_params_law =
    within_lawful _ _ _ _ (made_lawful param_of _ (lined_lawful _ (seq_lawful _ _
    (either_lawful _ _ (means_law class.Metadata None refl refl) (made_lawful (λ (t : TextTree). Some t) _ (types_law 64)) refl refl) param_names_law refl) refl)) refl refl refl

pub params_in_law : (metadata : Bool) → Lawful (params_in metadata)
params_in_law true = metadata_params_law
params_in_law false = params_law

pub params_in_some : (metadata : Bool) → (params_in metadata).nullable ≡ false
params_in_some true = refl
params_in_some false = refl

bracketed_law : Lawful (bracketed params)
bracketed_law = before_law class.OpenRound _ refl refl (after_law _ class.CloseRound refl refl (commas_lawful _ params_law refl refl refl) refl)

bracketed_metadata_law : Lawful (bracketed metadata_params)
bracketed_metadata_law = before_law class.OpenRound _ refl refl (after_law _ class.CloseRound refl refl (commas_lawful _ metadata_params_law refl refl refl) refl)

metadata_name_law : Lawful (global_uses_in (class.MetadataIntrinsic ∷ []))
unfolding name_of global_class global_name name_class begins_with intrinsic_class
metadata_name_law = made_lawful use_of _ (lined_lawful _ (leaf_lawful _ _ (example class.MetadataIntrinsic) _ refl) refl)

other_name_law : Lawful (global_uses_in (class.Global ∷ class.DroppedIntrinsic ∷ class.Intrinsic ∷ []))
unfolding name_of global_class global_name name_class begins_with
other_name_law = made_lawful use_of _ (lined_lawful _ (leaf_lawful _ _ (example class.Global) _ refl) refl)

declared_names_law : Lawful declared_names
unfolding declared_name_forms
declared_names_law =
    within_lawful _ _ _ _ (either_lawful _ _ (seq_lawful _ _ metadata_name_law bracketed_metadata_law refl) (seq_lawful _ _ other_name_law bracketed_law refl) refl refl) refl refl refl

defined_names_law : Lawful defined_names
unfolding defined_name_forms
defined_names_law = within_lawful _ _ _ _ (seq_lawful _ _ global_uses_law bracketed_law refl) refl refl refl

pub declared_signatures_law : Lawful declared_signatures
unfolding signature_forms
declared_signatures_law =
    within_lawful _ _ _ _ (seq_lawful _ _ visibility_law (leading_lawful _ _ attributes_law (seq_lawful _ _ result_types_law declared_names_law refl) refl) refl) refl refl refl

pub defined_signatures_law : Lawful defined_signatures
unfolding signature_forms
defined_signatures_law =
    within_lawful _ _ _ _ (seq_lawful _ _ visibility_law (leading_lawful _ _ attributes_law (seq_lawful _ _ result_types_law defined_names_law refl) refl) refl) refl refl refl

pub declared_ends_law : Lawful declared_ends
unfolding declared_end_forms
declared_ends_law =
    within_lawful _ _ _ _ (either_lawful _ _ (made_lawful (λ (n : Option ℕ). tt) _ an_attribute_law)
    (either_lawful _ _ (word_law class.UnnamedAddr refl refl) (word_law class.LocalUnnamedAddr refl refl) refl refl) refl refl) refl refl refl

pub defined_ends_law : Lawful defined_ends
unfolding defined_end_forms
defined_ends_law = within_lawful _ _ _ _ (either_lawful _ _ attachment_law declared_ends_law refl refl) refl refl refl
