use Rattle.std.proofs.Common.{ap, arith, sym, ◌∙◌}
use Rattle.ir_lex.specs.Splitting.{longer, longest_of}
use Rattle.ir_lex.specs.declared.kind.Kind.TheVariants.{CStr, Ellipsis, Word}
use Rattle.ir_lex.specs.declared.start.Start.TheVariants as start
use Rattle.ir_lex.proofs.Starts.{longest_by, single_match}
use Rattle.ir_lex.proofs.longest_match.longest_match.Goals as goal

pub returns-in-Word-clause-value : goal.returns-in-Word-clause-value
returns-in-Word-clause-value c =
    c.word_match.ensures.value
    ∙ longest_by c.args.bytes.now c.byte_at.result start.Word c.byte_at.ensures.value (omega arith) (sym c.in-Word.is ∙ c.start_of.ensures)

pub returns-in-CWord-clause-value : goal.returns-in-CWord-clause-value
unfolding longest_of
returns-in-CWord-clause-value c =
    c.longer.ensures.value
    ∙ ap (λ best. longer best CStr c.args.bytes.now) c.word_match-in-CWord.ensures.value
    ∙ longest_by c.args.bytes.now c.byte_at.result start.CWord c.byte_at.ensures.value (omega arith) (sym c.in-CWord.is ∙ c.start_of.ensures)

pub returns-in-Dot-clause-value : goal.returns-in-Dot-clause-value
unfolding longest_of
returns-in-Dot-clause-value c =
    c.longer-in-Dot-2.ensures.value
    ∙ ap (λ best. longer best Ellipsis c.args.bytes.now) (c.longer-word.ensures.value ∙ ap (λ best. longer best Word c.args.bytes.now) c.longer-in-Dot.ensures.value)
    ∙ longest_by c.args.bytes.now c.byte_at.result start.Dot c.byte_at.ensures.value (omega arith) (sym c.in-Dot.is ∙ c.start_of.ensures)

pub returns-in-Number-clause-value : goal.returns-in-Number-clause-value
returns-in-Number-clause-value c =
    c.number_match.ensures.value
    ∙ longest_by c.args.bytes.now c.byte_at.result start.Number c.byte_at.ensures.value (omega arith) (sym c.in-Number.is ∙ c.start_of.ensures)

pub returns-in-Single-clause-value : goal.returns-in-Single-clause-value
returns-in-Single-clause-value c =
    single_match c.args.bytes.now c.byte_at.result c.in-Single.kind c.byte_at.ensures.value (omega arith) (sym c.in-Single.is ∙ c.start_of.ensures)

pub returns-in-Name-clause-value : goal.returns-in-Name-clause-value
returns-in-Name-clause-value c =
    c.name_match.ensures.value
    ∙ longest_by c.args.bytes.now c.byte_at.result (start.Name c.in-Name.kind) c.byte_at.ensures.value (omega arith) (sym c.in-Name.is ∙ c.start_of.ensures)

pub returns-in-Only-clause-value : goal.returns-in-Only-clause-value
unfolding longest_of
returns-in-Only-clause-value c =
    c.longer-in-Only.ensures.value
    ∙ longest_by c.args.bytes.now c.byte_at.result (start.Only c.in-Only.kind) c.byte_at.ensures.value (omega arith) (sym c.in-Only.is ∙ c.start_of.ensures)

pub returns-in-Pair-clause-value : goal.returns-in-Pair-clause-value
unfolding longest_of
returns-in-Pair-clause-value c =
    c.longer-in-Pair-2.ensures.value
    ∙ ap (λ best. longer best c.in-Pair.second c.args.bytes.now) c.longer-in-Pair.ensures.value
    ∙ longest_by c.args.bytes.now c.byte_at.result (start.Pair c.in-Pair.first c.in-Pair.second) c.byte_at.ensures.value (omega arith) (sym c.in-Pair.is ∙ c.start_of.ensures)

pub returns-in-Nothing-clause-value : goal.returns-in-Nothing-clause-value
unfolding longest_of
returns-in-Nothing-clause-value c =
    longest_by c.args.bytes.now c.byte_at.result start.Nothing c.byte_at.ensures.value (omega arith) (sym c.in-Nothing.is ∙ c.start_of.ensures)
