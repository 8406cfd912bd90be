use Rattle.ir_words.proofs.global.named_class.Goals as goal

pub returns : goal.returns
returns c = c.looked_up.ensures
