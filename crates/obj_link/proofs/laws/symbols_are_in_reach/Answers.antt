use Rattle.obj_link.proofs.Reaching.{in_reach}
use Rattle.obj_link.proofs.laws.symbols_are_in_reach.Goals as goal

pub returns : goal.returns
returns c = in_reach
