use Rattle.obj_link.proofs.Causes.{linkable_excludes, one_cause}
use Rattle.obj_link.proofs.laws.objects_have_one_answer.Goals as goal

pub returns-clause-excludes : goal.returns-clause-excludes
returns-clause-excludes c = linkable_excludes

pub returns-clause-unique : goal.returns-clause-unique
returns-clause-unique c = one_cause
