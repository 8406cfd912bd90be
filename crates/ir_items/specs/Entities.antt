-- What stands at the top of a module (LangRef, "Module Structure").
use Rattle.std.specs.Prelude.{Option, Some, None, List, [], ◌∷◌, true, false, filter_map, ◌++◌}
use Rattle.ir_syntax.specs.Types.{TextTree}
use Rattle.ir_ident.specs.declared.name.NameUse.{NameUse}
use Rattle.ir_words.specs.declared.class.Class.{Class}
use Rattle.ir_words.specs.declared.class.Class.TheVariants as class
use Rattle.ir_rules.specs.Rules.{Rule, ◌▷◌, each, either, made, seq, within}
use Rattle.ir_attributes.specs.Ignored.{ignored, ignored_firsts}
use Rattle.ir_types.specs.Types.{local_uses, structs, types}
use Rattle.ir_functions.specs.Functions.{declarations, definitions, suffix_flast}
use Rattle.ir_values.specs.Values.{global_classes}
use Rattle.ir_globals.specs.Variables.{global_entities}
use Rattle.ir_entities.specs.declared.entity.Entity.{Entity}
use Rattle.ir_entities.specs.declared.entity.Entity.TheVariants as entity

abbrev pub type_def_of : NameUse × TextTree → Option Entity
type_def_of z = Some (entity.Type (record { line = z.0.line; place = 0; name = z.0.name; body = z.1 }))

-- LOCAL = "type" struct, of at most 64 brackets inside each other
unfoldable pub type_def_forms : Rule (Option Entity)
type_def_forms = made type_def_of (seq local_uses (class.Equal ▷ class.TypeWord ▷ structs (types 63)))

abbrev pub type_defs : Rule (Option Entity)
type_defs = within (class.Local ∷ []) [] false type_def_forms

-- an entity of which nothing is kept
abbrev pub no_entity : Rule (Option Entity)
no_entity = made (λ (u : Unit {0}). None) ignored

-- an entity that is kept
abbrev pub item_entities : Rule (Option Entity)
item_entities = either type_defs (either declarations (either definitions global_entities))

-- entity
unfoldable pub entity_forms : Rule (Option Entity)
entity_forms = either no_entity item_entities

abbrev pub item_firsts : List Class
item_firsts = class.Local ∷ class.Declare ∷ class.Define ∷ global_classes

abbrev pub entity_firsts : List Class
entity_firsts = ignored_firsts ++ item_firsts

abbrev pub entities : Rule (Option Entity)
entities = within entity_firsts (class.Comma ∷ suffix_flast) false entity_forms

-- entity*, those that are kept
unfoldable pub module_forms : Rule (List Entity)
module_forms = made (λ (found : List (Option Entity)). filter_map (λ e. e) found) (each entities)

-- a module
abbrev pub modules : Rule (List Entity)
modules = within entity_firsts (class.Comma ∷ (suffix_flast ++ entity_firsts)) true module_forms
