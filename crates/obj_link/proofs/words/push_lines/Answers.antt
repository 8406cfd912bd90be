use Rattle.std.proofs.Common.{subst, sym}
use Rattle.rv_isa.specs.Relocation.{IsLine}
use Rattle.obj_link.proofs.Encodable.{line_at}
use Rattle.obj_link.proofs.words.push_lines.Goals as goal

pub word_of_line-requires : goal.word_of_line-requires
word_of_line-requires c =
    subst IsLine (sym c.line-item.is) (line_at c.args.lines.now c.loop-line.line-index c.line-item.result c.requires c.loop-line-test.true)
