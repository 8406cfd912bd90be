use Rattle.ty_core.proofs.Alignments.{is_power_of_two}
use Rattle.ty_core.proofs.measure.alignments_are_powers_of_two.Goals as goal

pub returns : goal.returns
returns c = is_power_of_two
