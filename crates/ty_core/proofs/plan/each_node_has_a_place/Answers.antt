use Rattle.ty_core.proofs.Nodes.{length-all_nodes}
use Rattle.ty_core.proofs.plan.each_node_has_a_place.Goals as goal

pub returns : goal.returns
returns c = length-all_nodes
