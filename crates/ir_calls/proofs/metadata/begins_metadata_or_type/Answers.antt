use Rattle.std.proofs.Common.{◌∷◌, []}
use Rattle.ir_words.specs.declared.class.Class.TheVariants as class
use Rattle.ir_rules.proofs.Sets.{in_either}
use Rattle.ir_types.specs.Types.{type_firsts}
use Rattle.ir_calls.proofs.metadata.begins_metadata_or_type.Goals as goal

pub returns : goal.returns
returns c = in_either (class.Metadata ∷ []) type_firsts c.args.class _ _ c.is_metadata.ensures c.begins_type.ensures
