use Rattle.cg_built.proofs.UnbuiltLemmas.{is_program}
use Rattle.cg_part.proofs.AllowedLemmas.{image_allowed, program_allowed}
use Rattle.cg_part.proofs.laws.runs_are_allowed.Goals as goal

pub returns-clause-text : goal.returns-clause-text
returns-clause-text c = λ m built. program_allowed m (is_program m built)

pub returns-clause-image : goal.returns-clause-image
returns-clause-image c = λ m main image built. image_allowed m main image (is_program m built)
