use Rattle.rv_mach.proofs.CodeStays.{code-stays}
use Rattle.rv_mach.proofs.Keeping.{act-image}
use Rattle.rv_mach.proofs.laws.images_stay.Goals as goal

pub returns-clause-image : goal.returns-clause-image
returns-clause-image c = act-image

pub returns-clause-code : goal.returns-clause-code
returns-clause-code c = code-stays
