use Rattle.std.proofs.Common.{inl}
use Rattle.ir_read.specs.Modules as reading
use Rattle.llc_top.specs.Partial.{HasReadReason, HasTextReason}
use Rattle.llc_top.proofs.Outcomes.{answer-weaker, text_reason}
use Rattle.llc_top.proofs.Telling.{tells-nothing}
use Rattle.llc_top.proofs.Unread.{unread_answer}
use Rattle.llc_top.proofs.serve.serve_text.Goals as goal

pub returns-in-Err-clause-answer : goal.returns-in-Err-clause-answer
returns-in-Err-clause-answer g c =
    unread_answer (HasTextReason c.args.command.now c.args.text.now) (reading.IsFirstRefusal c.args.text.now) (λ e unread. inl unread) _ _
    (tells-nothing g.O.Sink.written g.O.Sink.faults c.args.out.now) c.in-Err.refusal c.answer_unread.result c.in-Err.ensures.refused c.answer_unread.ensures

pub returns-in-Ok-clause-answer : goal.returns-in-Ok-clause-answer
returns-in-Ok-clause-answer g c =
    answer-weaker (HasReadReason c.args.command.now c.in-Ok.m) (HasTextReason c.args.command.now c.args.text.now) c.serve_read.result _ _
    (text_reason c.args.command.now c.args.text.now c.in-Ok.m c.requires c.in-Ok.ensures.reads) c.serve_read.ensures.answer
