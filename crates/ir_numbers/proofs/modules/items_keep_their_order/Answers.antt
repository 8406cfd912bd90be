use Rattle.ir_numbers.proofs.PlaceLemmas.{are_one}
use Rattle.ir_numbers.proofs.modules.items_keep_their_order.Goals as goal

pub returns : goal.returns
returns c = are_one
