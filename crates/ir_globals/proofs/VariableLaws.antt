-- The rules of globals and aliases keep the laws.
use Rattle.std.proofs.Common.{ℕ, true, false, List, Some, None, refl}
use Rattle.std.specs.Prelude.{Option, fold}
use Rattle.ir_syntax.specs.declared.alias.AliasBase.TheVariants as base
use Rattle.ir_syntax.specs.declared.linkage.Linkage.TheVariants as link
use Rattle.ir_ident.specs.declared.name.NameUse.{NameUse}
use Rattle.ir_syntax.specs.declared.operand.ConstantGep.{ConstantGep}
use Rattle.ir_words.specs.declared.class.Class.TheVariants as class
use Rattle.ir_rules.specs.Laws.{Lawful}
use Rattle.ir_rules.proofs.Chains.{each_lawful}
use Rattle.ir_rules.proofs.Derived.{option_lawful}
use Rattle.ir_rules.proofs.Laws.{either_lawful, made_lawful, seq_lawful, within_lawful}
use Rattle.ir_rules.proofs.Words.{before_law, means_law}
use Rattle.ir_attributes.specs.Attributes.{later}
use Rattle.ir_attributes.proofs.AttributeLaws.{alignments_law, attachment_law}
use Rattle.ir_calls.proofs.CallLaws.{parameter_types_law}
use Rattle.ir_types.proofs.TypeLaws.{result_types_law, types_law}
use Rattle.ir_values.proofs.ValueLaws.{constant_geps_law, global_uses_law}
use Rattle.ir_globals.specs.Variables.{alias_base_forms, alias_bases, alias_forms, alias_of, aliases, base_addresses, declared_forms, declared_of, declared_variables, entity_of_global, external_definitions, global_entities, global_entity_forms, is_constant, local_definitions, definitions, definition_forms, definition_of, variable_forms, variable_of, variable_tail, variable_tail_forms, variable_tails, variable_tails_forms, variables}
use Rattle.ir_globals.proofs.HeadLaws.{local_linkage_law, visibility_law}
use Rattle.ir_inits.proofs.InitialiserLaws.{inits_law}

pub variable_tail_law : Lawful variable_tail
unfolding variable_tail_forms
variable_tail_law =
    within_lawful _ _ _ _ (either_lawful _ _ (before_law class.Comma _ refl refl (either_lawful _ _ (made_lawful (λ (n : ℕ). Some n) _ alignments_law)
    (made_lawful (λ (u : Unit {0}). None) _ attachment_law) refl refl)) (means_law class.Attr None refl refl) refl refl) refl refl refl

pub variable_tails_law : Lawful variable_tails
unfolding variable_tails_forms
variable_tails_law = within_lawful _ _ _ _ (made_lawful (λ (found : List (Option ℕ)). fold later None found) _ (each_lawful _ variable_tail_law refl refl)) refl refl refl

is_constant_law : Lawful is_constant
is_constant_law = either_lawful _ _ (means_law class.GlobalWord false refl refl) (means_law class.Constant true refl refl) refl refl

declared_variables_law : Lawful declared_variables
unfolding declared_forms
declared_variables_law =
    within_lawful _ _ _ _ (made_lawful declared_of _ (seq_lawful _ _ is_constant_law (seq_lawful _ _ (types_law 64) variable_tails_law refl) refl)) refl refl refl

variables_law : Lawful variables
unfolding variable_forms
variables_law =
    within_lawful _ _ _ _ (made_lawful variable_of _ (seq_lawful _ _ is_constant_law (seq_lawful _ _ (types_law 64)
    (seq_lawful _ _ (inits_law 64) variable_tails_law refl) refl) refl)) refl refl refl

base_addresses_law : Lawful base_addresses
base_addresses_law = made_lawful (λ (g : ConstantGep). base.Gep g) _ (constant_geps_law 64)

alias_bases_law : Lawful alias_bases
unfolding alias_base_forms
alias_bases_law =
    within_lawful _ _ _ _ (either_lawful _ _
    (before_law class.Ptr _ refl refl (either_lawful _ _ (made_lawful (λ (n : NameUse). base.Global n) _ global_uses_law) base_addresses_law refl refl))
    base_addresses_law refl refl) refl refl refl

aliases_law : Lawful aliases
unfolding alias_forms
aliases_law =
    within_lawful _ _ _ _ (made_lawful alias_of _ (before_law class.Alias _ refl refl (seq_lawful _ _ result_types_law
    (seq_lawful _ _ (option_lawful _ parameter_types_law refl) (before_law class.Comma _ refl refl alias_bases_law) refl) refl))) refl refl refl

external_definitions_law : Lawful external_definitions
external_definitions_law =
    made_lawful definition_of _ (seq_lawful _ _ (means_law class.External link.External refl refl) (seq_lawful _ _ visibility_law declared_variables_law refl) refl)

local_definitions_law : Lawful local_definitions
local_definitions_law =
    made_lawful definition_of _ (seq_lawful _ _ local_linkage_law (seq_lawful _ _ visibility_law (either_lawful _ _ variables_law aliases_law refl refl) refl) refl)

definition_law : Lawful definitions
unfolding definition_forms
definition_law = within_lawful _ _ _ _ (either_lawful _ _ external_definitions_law local_definitions_law refl refl) refl refl refl

pub global_entities_law : Lawful global_entities
unfolding global_entity_forms
global_entities_law =
    within_lawful _ _ _ _ (made_lawful entity_of_global _ (seq_lawful _ _ global_uses_law (before_law class.Equal _ refl refl definition_law) refl)) refl refl refl
