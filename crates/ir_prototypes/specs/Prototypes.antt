-- What a function says before its body: its result, its name, its parameters and what stands behind
-- them (LangRef, "Functions").
use Rattle.std.specs.Prelude.{ℕ, Option, Some, None, List, [], ◌∷◌, ◌++◌, Bool, true, false}
use Rattle.ir_syntax.specs.Types.{TextTree}
use Rattle.ir_syntax.specs.declared.function.Param.{Param}
use Rattle.ir_syntax.specs.declared.linkage.Visibility.{Visibility}
use Rattle.ir_ident.specs.declared.name.Name.{Name}
use Rattle.ir_ident.specs.declared.name.Name.TheVariants.{Implicit}
use Rattle.ir_ident.specs.declared.name.NameUse.{NameUse}
use Rattle.ir_words.specs.declared.class.Class.{Class}
use Rattle.ir_words.specs.declared.class.Class.TheVariants as class
use Rattle.ir_rules.specs.Leaves.{leading, lined, means}
use Rattle.ir_rules.specs.Rules.{Rule, ◌▷◌, ◌◁◌, commas, either, made, option, seq, within, word}
use Rattle.ir_attributes.specs.Attributes.{an_attribute, attachment, attribute_firsts, attribute_flast, attributes}
use Rattle.ir_calls.specs.Calls.{metadata_or_type_firsts}
use Rattle.ir_types.specs.Types.{local_names, result_types, type_firsts, types}
use Rattle.ir_values.specs.Values.{global_classes, global_uses, global_uses_in}
use Rattle.ir_globals.specs.Heads.{mark_firsts, visibility}
use Rattle.ir_prototypes.specs.declared.prototype.Prototype.{Prototype}

abbrev pub name_of_param : Option (ℕ × Name) → Name
name_of_param None = Implicit
name_of_param (Some z) = z.1

abbrev pub name_line_of_param : ℕ → Option (ℕ × Name) → ℕ
name_line_of_param line None = line
name_line_of_param line (Some z) = z.0

abbrev pub param_of : ℕ × (Option TextTree × (Option ℕ × Option (ℕ × Name))) → Param
param_of z = record { line = z.0; ty = z.1.0; name = name_of_param z.1.1.1; name_line = name_line_of_param z.0 z.1.1.1 }

-- attr* [LOCAL]
unfoldable pub param_name_forms : Rule (Option ℕ × Option (ℕ × Name))
param_name_forms = seq attributes (option (lined local_names))

-- the tokens that may go on behind a parameter
abbrev pub param_flast : List Class
param_flast = attribute_flast ++ class.Local ∷ []

abbrev pub param_names : Rule (Option ℕ × Option (ℕ × Name))
param_names = within (attribute_firsts ++ class.Local ∷ []) param_flast true param_name_forms

-- type attr* [LOCAL]
unfoldable pub param_forms : Rule Param
param_forms = made param_of (lined (seq (made (λ (t : TextTree). Some t) (types 64)) param_names))

abbrev pub params : Rule Param
params = within type_firsts param_flast false param_forms

-- (type | "metadata") attr* [LOCAL]
unfoldable pub metadata_param_forms : Rule Param
metadata_param_forms = made param_of (lined (seq (either (means class.Metadata None) (made (λ (t : TextTree). Some t) (types 64))) param_names))

abbrev pub metadata_params : Rule Param
metadata_params = within metadata_or_type_firsts param_flast false metadata_param_forms

-- parameters of an intrinsic that only carries metadata, or of another function
abbrev pub params_in : Bool → Rule Param
params_in true = metadata_params
params_in false = params

-- ( param,* )
abbrev pub bracketed : Rule Param → Rule (List Param)
bracketed param = class.OpenRound ▷ commas param ◁ class.CloseRound

-- a name and its parameters
abbrev pub Named : Type 0
Named = NameUse × List Param

-- the name of an intrinsic that only carries metadata, with its parameters
abbrev pub metadata_names : Rule Named
metadata_names = seq (global_uses_in (class.MetadataIntrinsic ∷ [])) (bracketed metadata_params)

-- another name with its parameters
abbrev pub other_names : Rule Named
other_names = seq (global_uses_in (class.Global ∷ class.DroppedIntrinsic ∷ class.Intrinsic ∷ [])) (bracketed params)

-- GLOBAL ( param,* ), where "metadata" stands in some intrinsics alone
unfoldable pub declared_name_forms : Rule Named
declared_name_forms = either metadata_names other_names

abbrev pub declared_names : Rule Named
declared_names = within (class.MetadataIntrinsic ∷ class.Global ∷ class.DroppedIntrinsic ∷ class.Intrinsic ∷ []) [] false declared_name_forms

-- GLOBAL ( param,* )
unfoldable pub defined_name_forms : Rule Named
defined_name_forms = seq global_uses (bracketed params)

abbrev pub defined_names : Rule Named
defined_names = within global_classes [] false defined_name_forms

-- visibility, result, and the name with its parameters
abbrev pub Signature : Type 0
Signature = Visibility × (Option TextTree × Named)

-- what is kept of it in code, as it is here
abbrev pub signature_of : Prototype → Signature
signature_of p = (p.visibility, (p.result, (p.name, p.params)))

-- pre* attr* rtype ..
unfoldable pub signature_forms : Rule Named → Rule Signature
signature_forms name = seq visibility (leading attributes (seq result_types name))

abbrev pub signature_firsts : List Class
signature_firsts = attribute_firsts ++ class.Void ∷ (type_firsts ++ mark_firsts)

abbrev pub declared_signatures : Rule Signature
declared_signatures = within signature_firsts [] false (signature_forms declared_names)

abbrev pub defined_signatures : Rule Signature
defined_signatures = within signature_firsts [] false (signature_forms defined_names)

-- attr | "unnamed_addr" | "local_unnamed_addr"
unfoldable pub declared_end_forms : Rule (Unit {0})
declared_end_forms = either (made (λ (n : Option ℕ). tt) an_attribute) (either (word class.UnnamedAddr) (word class.LocalUnnamedAddr))

abbrev pub declared_end_firsts : List Class
declared_end_firsts = attribute_firsts ++ class.UnnamedAddr ∷ class.LocalUnnamedAddr ∷ []

abbrev pub declared_ends : Rule (Unit {0})
declared_ends = within declared_end_firsts (class.OpenRound ∷ class.Equal ∷ []) false declared_end_forms

-- those, or META META
unfoldable pub defined_end_forms : Rule (Unit {0})
defined_end_forms = either attachment declared_ends

abbrev pub defined_ends : Rule (Unit {0})
defined_ends = within (class.Meta ∷ declared_end_firsts) (class.OpenRound ∷ class.Equal ∷ []) false defined_end_forms
