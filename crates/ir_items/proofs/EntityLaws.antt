-- The rules of modules keep the laws.
use Rattle.std.proofs.Common.{List, None, refl}
use Rattle.std.specs.Prelude.{Option, filter_map}
use Rattle.ir_words.specs.declared.class.Class.TheVariants as class
use Rattle.ir_rules.specs.Laws.{Lawful}
use Rattle.ir_rules.proofs.Chains.{each_lawful}
use Rattle.ir_rules.proofs.Laws.{either_lawful, made_lawful, seq_lawful, within_lawful}
use Rattle.ir_rules.proofs.Words.{before_law}
use Rattle.ir_attributes.proofs.IgnoredLaws.{ignored_law}
use Rattle.ir_types.proofs.TypeLaws.{local_uses_law, structs_law, types_law}
use Rattle.ir_items.specs.Entities.{entities, entity_forms, module_forms, modules, type_def_forms, type_def_of, type_defs}
use Rattle.ir_entities.specs.declared.entity.Entity.{Entity}
use Rattle.ir_functions.proofs.FunctionLaws.{declarations_law, definitions_law}
use Rattle.ir_globals.proofs.VariableLaws.{global_entities_law}

pub type_defs_law : Lawful type_defs
unfolding type_def_forms
type_defs_law =
    within_lawful _ _ _ _ (made_lawful type_def_of _ (seq_lawful _ _ local_uses_law
    (before_law class.Equal _ refl refl (before_law class.TypeWord _ refl refl (structs_law 63 (types_law 63)))) refl)) refl refl refl

pub entities_law : Lawful entities
unfolding entity_forms
entities_law =
    within_lawful _ _ _ _ (either_lawful _ _ (made_lawful (λ (u : Unit {0}). None) _ ignored_law)
    (either_lawful _ _ type_defs_law (either_lawful _ _ declarations_law (either_lawful _ _ definitions_law global_entities_law refl refl) refl refl) refl refl) refl refl) refl refl refl

pub modules_law : Lawful modules
unfolding module_forms
modules_law = within_lawful _ _ _ _ (made_lawful (λ (found : List (Option Entity)). filter_map (λ e. e) found) _ (each_lawful _ entities_law refl refl)) refl refl refl
