use Rattle.ir_words.proofs.global.is_sized_intrinsic.Goals as goal

pub returns : goal.returns
returns c = c.is_sized.ensures
