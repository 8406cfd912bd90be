-- The module of a list of items.
use Rattle.std.specs.Prelude.{List, [], ◌∷◌}
use Rattle.std.specs.List.{flat_map}
use Rattle.ir_entities.specs.declared.entity.Entity.{Entity}
use Rattle.ir_entities.specs.declared.entity.Entity.TheVariants as entity
use Rattle.ir_syntax.specs.declared.alias.Alias.{Alias}
use Rattle.ir_syntax.specs.declared.function.Function.{Function}
use Rattle.ir_syntax.specs.declared.global.Global.{Global}
use Rattle.ir_syntax.specs.declared.module.Module.{Module}
use Rattle.ir_syntax.specs.declared.type_def.TypeDef.{TypeDef}

abbrev pub type_of : Entity → List TypeDef
type_of (entity.«Type» t) = t ∷ []
type_of (entity.Global g) = []
type_of (entity.Function f) = []
type_of (entity.Alias a) = []

abbrev pub global_of : Entity → List Global
global_of (entity.«Type» t) = []
global_of (entity.Global g) = g ∷ []
global_of (entity.Function f) = []
global_of (entity.Alias a) = []

abbrev pub function_of : Entity → List Function
function_of (entity.«Type» t) = []
function_of (entity.Global g) = []
function_of (entity.Function f) = f ∷ []
function_of (entity.Alias a) = []

abbrev pub alias_of : Entity → List Alias
alias_of (entity.«Type» t) = []
alias_of (entity.Global g) = []
alias_of (entity.Function f) = []
alias_of (entity.Alias a) = a ∷ []

-- each kind in the order of the text
abbrev pub module_of : List Entity → Module
module_of entities = record {
  types = flat_map type_of entities;
  globals = flat_map global_of entities;
  functions = flat_map function_of entities;
  aliases = flat_map alias_of entities;
}
