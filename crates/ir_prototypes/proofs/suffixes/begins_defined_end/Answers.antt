use Rattle.std.proofs.Common.{◌∷◌, []}
use Rattle.ir_words.specs.declared.class.Class.TheVariants as class
use Rattle.ir_rules.proofs.Sets.{in_either}
use Rattle.ir_prototypes.specs.Prototypes.{declared_end_firsts}
use Rattle.ir_prototypes.proofs.suffixes.begins_defined_end.Goals as goal

pub returns : goal.returns
returns c = in_either (class.Meta ∷ []) declared_end_firsts c.args.class _ _ c.is_metadata_name.ensures c.begins_declared_end.ensures
