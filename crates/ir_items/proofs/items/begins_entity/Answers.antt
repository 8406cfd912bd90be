use Rattle.ir_rules.proofs.Sets.{in_either}
use Rattle.ir_attributes.specs.Ignored.{ignored_firsts}
use Rattle.ir_items.specs.Entities.{item_firsts}
use Rattle.ir_items.proofs.items.begins_entity.Goals as goal

pub returns : goal.returns
returns c = in_either ignored_firsts item_firsts c.args.class _ _ c.begins_ignored.ensures c.begins_item.ensures
