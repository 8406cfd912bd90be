use Rattle.asm_read.proofs.AssemblyLemmas.{assembled_once}
use Rattle.cg_part.proofs.LinkingImage.{image_excludes, image_once, unlinked_once}
use Rattle.cg_part.proofs.laws.texts_have_one_image.Goals as goal

pub returns-clause-object : goal.returns-clause-object
returns-clause-object c = assembled_once

pub returns-clause-image : goal.returns-clause-image
returns-clause-image c = image_once

pub returns-clause-excludes : goal.returns-clause-excludes
returns-clause-excludes c = image_excludes

pub returns-clause-cause : goal.returns-clause-cause
returns-clause-cause c = unlinked_once
