use Rattle.ir_plan.proofs.UnnamedLemmas.{all_places-checked, planned_types-checked}
use Rattle.ir_plan.proofs.laws.checked_types_were_counted.Goals as goal

pub returns-clause-types : goal.returns-clause-types
returns-clause-types c = planned_types-checked

pub returns-clause-places : goal.returns-clause-places
returns-clause-places c = all_places-checked
