-- What sets of names have.
use Rattle.std.specs.Prelude.{Bool}
use Rattle.ir_names.specs.declared.definitions.Definitions.{Definitions}
use Rattle.ir_entities.specs.declared.site.NameKind.{NameKind}
use Rattle.ir_entities.specs.declared.site.NameKind.TheVariants.{NamedType, Global, Value, Block}
use Rattle.ir_entities.specs.Sites.{Site}
use Rattle.ir_ident.specs.NameMaps.{has_name}
use Rattle.ir_ident.specs.declared.names.NameSet.{NameSet}

-- the set of a kind's names
abbrev pub names_of : Definitions → NameKind → NameSet
names_of d NamedType = d.types
names_of d Global = d.globals
names_of d Value = d.values
names_of d Block = d.blocks

abbrev pub knows : Definitions → Site → Bool
knows d s = has_name (names_of d s.0) s.1.name
