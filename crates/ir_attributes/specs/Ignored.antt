-- Items at the top of a module that mean nothing here: its source, its target, groups of attributes
-- and metadata (LangRef, "Module Structure", "Attribute Groups" and "Metadata").
use Rattle.std.specs.Prelude.{Option, List, [], ◌∷◌, false}
use Rattle.ir_words.specs.declared.class.Class.{Class}
use Rattle.ir_words.specs.declared.class.Class.TheVariants.{Attr, Attributes, Bang, Datalayout, Distinct, Equal, Meta, OpenRound, SourceFilename, Str, Target, Triple}
use Rattle.ir_rules.specs.Balance.{enclosed}
use Rattle.ir_rules.specs.Leaves.{leading}
use Rattle.ir_rules.specs.Rules.{Rule, ◌▷◌, either, made, option, within, word}
use Rattle.ir_rules.specs.declared.bracket.Bracket.TheVariants.{Curly}
use Rattle.ir_attributes.specs.Attributes.{round_brackets}

-- "source_filename" = STR
abbrev pub source_filename : Rule (Unit {0})
source_filename = SourceFilename ▷ Equal ▷ word Str

-- "target" ("triple"|"datalayout") = STR
abbrev pub target : Rule (Unit {0})
target = Target ▷ leading (either (word Triple) (word Datalayout)) (Equal ▷ word Str)

-- "attributes" ATTR = { BAL }
abbrev pub attribute_group : Rule (Unit {0})
attribute_group = Attributes ▷ Attr ▷ Equal ▷ enclosed Curly

-- META ["(" BAL ")"]
abbrev pub metadata_kind : Rule (Unit {0})
metadata_kind = made (λ (o : Option (Unit {0})). tt) (Meta ▷ option round_brackets)

-- META ["(" BAL ")"] | ! { BAL }
abbrev pub metadata_body : Rule (Unit {0})
metadata_body = either metadata_kind (Bang ▷ enclosed Curly)

-- META = ["distinct"] (META ["(" BAL ")"] | ! { BAL })
abbrev pub metadata : Rule (Unit {0})
metadata = Meta ▷ Equal ▷ leading (option (word Distinct)) metadata_body

-- an item at the top of a module that means nothing here
unfoldable pub ignored_forms : Rule (Unit {0})
ignored_forms = either source_filename (either target (either attribute_group metadata))

-- the first words of those items
abbrev pub ignored_firsts : List Class
ignored_firsts = SourceFilename ∷ Target ∷ Attributes ∷ Meta ∷ []

abbrev pub ignored : Rule (Unit {0})
ignored = within ignored_firsts (OpenRound ∷ []) false ignored_forms
