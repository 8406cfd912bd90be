use Rattle.std.proofs.Common.{◌∷◌, []}
use Rattle.ir_words.specs.declared.class.Class.TheVariants as class
use Rattle.ir_rules.proofs.Sets.{in_either}
use Rattle.ir_attributes.specs.Attributes.{attribute_firsts}
use Rattle.ir_prototypes.proofs.suffixes.begins_declared_end.Goals as goal

pub returns : goal.returns
returns c =
    in_either attribute_firsts (class.UnnamedAddr ∷ class.LocalUnnamedAddr ∷ []) c.args.class _ _ c.begins_attribute.ensures c.is_address_word.ensures
