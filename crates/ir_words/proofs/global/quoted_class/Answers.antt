use Rattle.std.proofs.Common.{ap, ◌∙◌}
use Rattle.ir_lex.specs.Escapes.{unescaped}
use Rattle.ir_words.specs.Intrinsics.{name_class}
use Rattle.ir_words.proofs.Telling.{prefix_tells}
use Rattle.ir_words.proofs.global.quoted_class.Goals as goal

pub returns : goal.returns
returns c =
    c.name_class.ensures
    ∙ ap name_class (c.prefix_of.ensures ∙ c.unescape-len.ensures.value)
    ∙ prefix_tells (unescaped c.args.quoted.now)
