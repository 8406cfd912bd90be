-- Global variables and aliases (LangRef, "Global Variables" and "Aliases"), without their lines and names.
use Rattle.std.specs.Prelude.{ℕ, Option, Some, None, List, [], ◌∷◌, Bool, true, false, fold}
use Rattle.ir_syntax.specs.Inits.{InitText}
use Rattle.ir_syntax.specs.Types.{TextTree}
use Rattle.ir_syntax.specs.declared.alias.AliasBase.{AliasBase}
use Rattle.ir_syntax.specs.declared.alias.AliasBase.TheVariants as base
use Rattle.ir_syntax.specs.declared.linkage.Linkage.{Linkage}
use Rattle.ir_syntax.specs.declared.linkage.Linkage.TheVariants as link
use Rattle.ir_syntax.specs.declared.linkage.Visibility.{Visibility}
use Rattle.ir_ident.specs.declared.name.Name.{Name}
use Rattle.ir_ident.specs.declared.name.NameUse.{NameUse}
use Rattle.ir_syntax.specs.declared.operand.ConstantGep.{ConstantGep}
use Rattle.ir_words.specs.declared.class.Class.{Class}
use Rattle.ir_words.specs.declared.class.Class.TheVariants as class
use Rattle.ir_rules.specs.Leaves.{means}
use Rattle.ir_rules.specs.Rules.{Rule, ◌▷◌, each, either, made, option, seq, within}
use Rattle.ir_attributes.specs.Attributes.{alignments, attachment, later}
use Rattle.ir_calls.specs.Calls.{parameter_types}
use Rattle.ir_types.specs.Types.{result_types, types}
use Rattle.ir_values.specs.Values.{constant_geps, global_classes, global_uses}
use Rattle.ir_globals.specs.Heads.{linkage, local_linkage, mark_firsts, visibility}
use Rattle.ir_inits.specs.Initialisers.{inits}
use Rattle.ir_globals.specs.declared.defined.Defined.{Defined}
use Rattle.ir_globals.specs.declared.defined.Defined.TheVariants.{Variable, SecondName}
use Rattle.ir_globals.specs.declared.defined.GlobalDefinition.{GlobalDefinition}
use Rattle.ir_entities.specs.declared.entity.Entity.{Entity}
use Rattle.ir_entities.specs.declared.entity.Entity.TheVariants as entity

-- , "align" INT | , META META | ATTR
unfoldable pub variable_tail_forms : Rule (Option ℕ)
variable_tail_forms =
    either (class.Comma ▷ either (made (λ (n : ℕ). Some n) alignments) (made (λ (u : Unit {0}). None) attachment)) (means class.Attr None)

abbrev pub variable_tail_firsts : List Class
variable_tail_firsts = class.Comma ∷ class.Attr ∷ []

abbrev pub variable_tail : Rule (Option ℕ)
variable_tail = within variable_tail_firsts [] false variable_tail_forms

-- gtail*, with the last alignment among them
unfoldable pub variable_tails_forms : Rule (Option ℕ)
variable_tails_forms = made (λ (found : List (Option ℕ)). fold later None found) (each variable_tail)

abbrev pub variable_tails : Rule (Option ℕ)
variable_tails = within variable_tail_firsts variable_tail_firsts true variable_tails_forms

-- "global" | "constant"
abbrev pub is_constant : Rule Bool
is_constant = either (means class.GlobalWord false) (means class.Constant true)

abbrev pub declared_of : Bool × (TextTree × Option ℕ) → Defined
declared_of z = Variable z.0 z.1.0 None z.1.1

abbrev pub variable_of : Bool × (TextTree × (InitText × Option ℕ)) → Defined
variable_of z = Variable z.0 z.1.0 (Some z.1.1.0) z.1.1.1

-- ("global"|"constant") type gtail*
unfoldable pub declared_forms : Rule Defined
declared_forms = made declared_of (seq is_constant (seq (types 64) variable_tails))

abbrev pub declared_variables : Rule Defined
declared_variables = within is_constant.firsts variable_tail_firsts false declared_forms

-- ("global"|"constant") type init gtail*
unfoldable pub variable_forms : Rule Defined
variable_forms = made variable_of (seq is_constant (seq (types 64) (seq (inits 64) variable_tails)))

abbrev pub variables : Rule Defined
variables = within is_constant.firsts variable_tail_firsts false variable_forms

-- cgep
abbrev pub base_addresses : Rule AliasBase
base_addresses = made (λ (g : ConstantGep). base.Gep g) (constant_geps 64)

-- GLOBAL | cgep
abbrev pub pointer_bases : Rule AliasBase
pointer_bases = either (made (λ (n : NameUse). base.Global n) global_uses) base_addresses

-- "ptr" GLOBAL | ["ptr"] cgep
unfoldable pub alias_base_forms : Rule AliasBase
alias_base_forms = either (class.Ptr ▷ pointer_bases) base_addresses

abbrev pub alias_bases : Rule AliasBase
alias_bases = within (class.Ptr ∷ class.Getelementptr ∷ []) [] false alias_base_forms

abbrev pub alias_of : Option TextTree × (Option (List TextTree) × AliasBase) → Defined
alias_of z = SecondName z.0 z.1.0 z.1.1

-- "alias" rtype ["(" type,* ")"] , base
unfoldable pub alias_forms : Rule Defined
alias_forms = made alias_of (class.Alias ▷ seq result_types (seq (option parameter_types) (class.Comma ▷ alias_bases)))

abbrev pub aliases : Rule Defined
aliases = within (class.Alias ∷ []) [] false alias_forms

-- ("global"|"constant") type init gtail* | "alias" ..
abbrev pub defined_here : Rule Defined
defined_here = either variables aliases

abbrev pub definition_of : Linkage × (Visibility × Defined) → GlobalDefinition
definition_of z = record { linkage = z.0; visibility = z.1.0; defined = z.1.1 }

-- "external" pre* ("global"|"constant") type gtail*
abbrev pub external_definitions : Rule GlobalDefinition
external_definitions = made definition_of (seq (means class.External link.External) (seq visibility declared_variables))

-- ["private"|"internal"] pre* (("global"|"constant") type init gtail* | "alias" ..)
abbrev pub local_definitions : Rule GlobalDefinition
local_definitions = made definition_of (seq local_linkage (seq visibility defined_here))

-- linkage, visibility, and what they are of
unfoldable pub definition_forms : Rule GlobalDefinition
definition_forms = either external_definitions local_definitions

abbrev pub definitions : Rule GlobalDefinition
definitions = within (class.External ∷ class.Private ∷ class.Internal ∷ class.GlobalWord ∷ class.Constant ∷ class.Alias ∷ mark_firsts) variable_tail_firsts false definition_forms

-- the item on a line, of a name
abbrev pub defined_entity : ℕ → Name → Linkage → Visibility → Defined → Entity
defined_entity line name linkage seen (Variable constant ty init align) = entity.Global (record {
  line = line;
  place = 0;
  name = name;
  linkage = linkage;
  visibility = seen;
  constant = constant;
  ty = ty;
  init = init;
  align = align;
})
defined_entity line name linkage seen (SecondName result params base) = entity.Alias (record {
  line = line;
  place = 0;
  name = name;
  linkage = linkage;
  visibility = seen;
  result = result;
  params = params;
  base = base;
})

abbrev pub global_entity : NameUse → GlobalDefinition → Entity
global_entity name definitions = defined_entity name.line name.name definitions.linkage definitions.visibility definitions.defined

abbrev pub entity_of_global : NameUse × GlobalDefinition → Option Entity
entity_of_global z = Some (global_entity z.0 z.1)

-- GLOBAL = ..
unfoldable pub global_entity_forms : Rule (Option Entity)
global_entity_forms = made entity_of_global (seq global_uses (class.Equal ▷ definitions))

abbrev pub global_entities : Rule (Option Entity)
global_entities = within global_classes variable_tail_firsts false global_entity_forms
