use Rattle.std.proofs.Common.{◌∙◌}
use Rattle.obj_link.proofs.Sizes.{length-image_bytes, image_size-instructions}
use Rattle.obj_link.proofs.laws.images_have_their_size.Goals as goal

pub returns-clause-bytes : goal.returns-clause-bytes
returns-clause-bytes c = length-image_bytes

pub returns-clause-instructions : goal.returns-clause-instructions
returns-clause-instructions c = λ objects. length-image_bytes objects ∙ image_size-instructions objects
