use Rattle.obj_link.proofs.Needs.{all_needs_named}
use Rattle.obj_link.proofs.laws.needs_have_addresses.Goals as goal

pub returns : goal.returns
returns c = all_needs_named
