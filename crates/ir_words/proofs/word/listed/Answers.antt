use Rattle.std.proofs.Common.{ap, sym, ◌∙◌}
use Rattle.ir_words.specs.Words.{looked_up, words}
use Rattle.ir_words.specs.declared.class.Class.TheVariants.{Attribute}
use Rattle.ir_words.proofs.Tables.{only_beginning}
use Rattle.ir_words.proofs.word.listed.Goals as goal

pub returns : goal.returns
returns c =
    c.looked_up.ensures
    ∙ ap (λ table. looked_up table c.args.word.now Attribute) c.beginning.ensures
    ∙ only_beginning c.byte_at.result words c.args.word.now Attribute (sym c.byte_at.ensures.value)
