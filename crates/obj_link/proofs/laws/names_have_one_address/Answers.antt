use Rattle.obj_link.proofs.OneAddress.{own_stands, global_stands}
use Rattle.obj_link.proofs.laws.names_have_one_address.Goals as goal

pub returns-clause-own : goal.returns-clause-own
returns-clause-own c = own_stands

pub returns-clause-global : goal.returns-clause-global
returns-clause-global c = global_stands
