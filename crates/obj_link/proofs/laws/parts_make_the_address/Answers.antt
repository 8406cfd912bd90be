use Rattle.obj_link.proofs.Reaching.{signed_parts}
use Rattle.obj_link.proofs.laws.parts_make_the_address.Goals as goal

pub returns-clause-signed : goal.returns-clause-signed
returns-clause-signed c = signed_parts
