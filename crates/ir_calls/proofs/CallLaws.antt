-- The rules of calls keep the laws.
use Rattle.std.proofs.Common.{◌≡◌, List, [], ◌∷◌, Some, None, refl}
use Rattle.ir_syntax.specs.declared.instr.Arg.{Arg}
use Rattle.ir_ident.specs.declared.name.NameUse.{NameUse}
use Rattle.ir_syntax.specs.declared.operand.TypedOperand.{TypedOperand}
use Rattle.ir_words.specs.Intrinsics.{begins_with, global_class, global_name, intrinsic_class, is_sized, name_class}
use Rattle.ir_words.specs.declared.class.Class.TheVariants as class
use Rattle.ir_rules.specs.Laws.{Lawful}
use Rattle.ir_rules.proofs.Derived.{commas_lawful, dropped_lawful, option_lawful}
use Rattle.ir_rules.proofs.Laws.{either_lawful, made_lawful, seq_lawful, within_lawful}
use Rattle.ir_rules.proofs.Leaves.{ending_lawful, leading_lawful, leaf_lawful, lined_lawful}
use Rattle.ir_rules.proofs.Examples.{example}
use Rattle.ir_rules.proofs.Words.{after_law, before_law, word_law}
use Rattle.ir_calls.specs.Calls.{arg_forms, arg_list_forms, arg_lists, arg_of, args, call_forms, call_of, called_forms, callee_forms, callees, calls, convention, metadata_arg_forms, metadata_args, metadata_forms, metadata_list_forms, metadata_lists, metadata_value, parameter_types}
use Rattle.ir_types.specs.Names.{name_of, use_of}
use Rattle.ir_types.specs.Types.{types}
use Rattle.ir_values.specs.Values.{global_uses_in}
use Rattle.ir_attributes.proofs.AttributeLaws.{attributes_law}
use Rattle.ir_attributes.proofs.IgnoredLaws.{metadata_body_law}
use Rattle.ir_types.proofs.TypeLaws.{result_types_law, types_law}
use Rattle.ir_values.proofs.ValueLaws.{operands_law, typed_operands_law}

pub args_law : Lawful args
unfolding arg_forms
args_law = within_lawful _ _ _ _ (made_lawful arg_of _ (seq_lawful _ _ (types_law 64) (seq_lawful _ _ attributes_law (operands_law 64) refl) refl)) refl refl refl

pub arg_lists_law : Lawful arg_lists
unfolding arg_list_forms
arg_lists_law =
    within_lawful _ _ _ _ (before_law class.OpenRound _ refl refl (after_law _ class.CloseRound refl refl (commas_lawful _ args_law refl refl refl) refl)) refl refl refl

metadata_value_law : Lawful metadata_value
unfolding metadata_forms
metadata_value_law =
    within_lawful _ _ _ _
    (either_lawful _ _ metadata_body_law (made_lawful (λ (o : TypedOperand). tt) _ typed_operands_law) refl refl)
    refl refl refl

pub metadata_args_law : Lawful metadata_args
unfolding metadata_arg_forms
metadata_args_law =
    within_lawful _ _ _ _
    (either_lawful _ _ (before_law class.Metadata _ refl refl metadata_value_law) (made_lawful (λ (a : Arg). tt) _ args_law) refl refl)
    refl refl refl

metadata_lists_law : Lawful metadata_lists
unfolding metadata_list_forms
metadata_lists_law =
    within_lawful _ _ _ _
    (before_law class.OpenRound _ refl refl
    (after_law _ class.CloseRound refl refl (made_lawful (λ (xs : List (Unit {0})). tt) _ (commas_lawful _ metadata_args_law refl refl refl)) refl))
    refl refl refl

metadata_callee_law : Lawful (global_uses_in (class.MetadataIntrinsic ∷ []))
unfolding name_of global_class global_name name_class begins_with intrinsic_class
metadata_callee_law = made_lawful use_of _ (lined_lawful _ (leaf_lawful _ _ (example class.MetadataIntrinsic) _ refl) refl)

dropped_callee_law : Lawful (global_uses_in (class.DroppedIntrinsic ∷ []))
unfolding name_of global_class global_name name_class begins_with intrinsic_class is_sized
dropped_callee_law = made_lawful use_of _ (lined_lawful _ (leaf_lawful _ _ (example class.DroppedIntrinsic) _ refl) refl)

kept_callee_law : Lawful (global_uses_in (class.Global ∷ class.Intrinsic ∷ []))
unfolding name_of global_class global_name name_class begins_with
kept_callee_law = made_lawful use_of _ (lined_lawful _ (leaf_lawful _ _ (example class.Global) _ refl) refl)

pub callees_law : Lawful callees
unfolding callee_forms
callees_law =
    within_lawful _ _ _ _
    (either_lawful _ _ (made_lawful (λ (z : NameUse × Unit {0}). None) _ (seq_lawful _ _ metadata_callee_law metadata_lists_law refl))
    (either_lawful _ _ (made_lawful (λ (z : NameUse × List Arg). None) _ (seq_lawful _ _ dropped_callee_law arg_lists_law refl))
    (made_lawful (λ (z : NameUse × List Arg). Some z) _ (seq_lawful _ _ kept_callee_law arg_lists_law refl)) refl refl) refl refl)
    refl refl refl

pub parameter_type_law : Lawful (types 64)
parameter_type_law = types_law 64

pub parameter_types_law : Lawful parameter_types
parameter_types_law = before_law class.OpenRound _ refl refl (after_law _ class.CloseRound refl refl (commas_lawful _ (types_law 64) refl refl refl) refl)

pub convention_law : Lawful convention
convention_law =
    either_lawful _ _ (word_law class.Ccc refl refl) (either_lawful _ _ (word_law class.Fastcc refl refl) (word_law class.Coldcc refl refl) refl refl) refl refl

called_law : Lawful called_forms
unfolding called_forms
called_law =
    leading_lawful _ _ (dropped_lawful _ convention_law refl refl)
    (leading_lawful _ _ attributes_law
    (made_lawful call_of _ (seq_lawful _ _ result_types_law
    (seq_lawful _ _ (option_lawful _ parameter_types_law refl) (ending_lawful _ _ callees_law attributes_law refl) refl) refl)) refl) refl

pub calls_law : Lawful calls
unfolding call_forms called_forms
calls_law =
    within_lawful _ _ _ _
    (leading_lawful _ _ (option_lawful _ (either_lawful _ _ (word_law class.Tail refl refl) (word_law class.Notail refl refl) refl refl) refl)
    (before_law class.Call _ refl refl called_law) refl)
    refl refl refl
