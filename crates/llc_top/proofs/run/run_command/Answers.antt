use Rattle.std.proofs.Common.{◌≡◌, ◌∙◌, ap, refl, Err, ℕ, String, Global, map, sym, string_bytes, Some, None, rules, subst}
use Rattle.ir_syntax.specs.declared.refusal.Refusal.TheVariants as refusals
use Rattle.llc_top.specs.Outcome.{HasReason}
use Rattle.llc_top.specs.Partial.{HasTextReason, ToldRefusal}
use Rattle.llc_top.specs.Streams.{source_change, sink_change}
use Rattle.llc_top.proofs.Outcomes.{answer-weaker, fault_answer, long_reason, refusal_answer, whole_reason, words_answer}
use Rattle.llc_top.proofs.Telling.{tells-nothing}
use Rattle.llc_top.proofs.run.run_command.Goals as goal

pub returns-in-Err-Refused-clause-answer : goal.returns-in-Err-Refused-clause-answer
returns-in-Err-Refused-clause-answer g c =
    words_answer (HasReason (map (λ (word : String Global). string_bytes word) c.args.words.now) (source_change g.S.Source.left g.S.Source.faults c.args.src.now c.args.src.now)) _ _
    (tells-nothing g.O.Sink.written g.O.Sink.faults c.args.out.now) c.answer_line.result
    (refl, c.in-Err-Refused.ensures.refused (ap Err c.in-Err-Refused.field-0-is)) c.answer_line.ensures

pub returns-in-Err-TooLong-clause-answer : goal.returns-in-Err-TooLong-clause-answer
returns-in-Err-TooLong-clause-answer g c =
    refusal_answer (HasReason (map (λ (word : String Global). string_bytes word) c.args.words.now) (source_change g.S.Source.left g.S.Source.faults c.args.src.now c.read_all.new.src)) _ _
    (tells-nothing g.O.Sink.written g.O.Sink.faults c.args.out.now) (refusals.TooLong c.in-Err-TooLong.taken) c.answer_refusal.result
    (search rules, c.in-Ok.command, c.in-Ok.ensures.asked, long_reason c.in-Ok.command.mode _ _ c.in-Err-TooLong.taken (rw c.in-Err-TooLong.field-0-is at c.in-Err-TooLong.ensures.early))
    (subst
    (λ (taken : ℕ). ToldRefusal (refusals.TooLong taken) c.answer_refusal.result (sink_change g.E.Sink.written g.E.Sink.faults c.args.err.now c.answer_refusal.new.err))
    c.in-Err-TooLong.taken-is c.answer_refusal.ensures)

pub returns-in-Err-Fault-clause-answer : goal.returns-in-Err-Fault-clause-answer
returns-in-Err-Fault-clause-answer g c =
    fault_answer (HasReason (map (λ (word : String Global). string_bytes word) c.args.words.now) (source_change g.S.Source.left g.S.Source.faults c.args.src.now c.read_all.new.src)) _ _
    (tells-nothing g.O.Sink.written g.O.Sink.faults c.args.out.now) c.answer_line-in-Err-Fault.result (
      c.in-Err-Fault.ensures.fault (ap Err c.in-Err-Fault.field-0-is),
      λ none. let asked : Some c.in-Ok.command ≡ None = sym c.in-Ok.ensures.asked ∙ none in cc,
    )
    c.answer_line-in-Err-Fault.ensures

pub returns-in-Ok-read_all-clause-answer : goal.returns-in-Ok-read_all-clause-answer
returns-in-Ok-read_all-clause-answer g c =
    answer-weaker (HasTextReason c.in-Ok.command c.deref.result.now)
    (HasReason (map (λ (word : String Global). string_bytes word) c.args.words.now) (source_change g.S.Source.left g.S.Source.faults c.args.src.now c.read_all.new.src))
    c.serve_text.result _ _
    (whole_reason (map (λ (word : String Global). string_bytes word) c.args.words.now) c.in-Ok.command (source_change g.S.Source.left g.S.Source.faults c.args.src.now c.read_all.new.src) c.deref.result.now c.in-Ok.ensures.asked
    (search rules)
    (rw (← c.deref.ensures.value) at c.in-Ok-read_all.ensures.all) (rw (← c.deref.ensures.value) at c.in-Ok-read_all.ensures.within))
    c.serve_text.ensures.answer
