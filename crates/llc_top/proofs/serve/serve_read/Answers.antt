use Rattle.std.proofs.Common.{inl}
use Rattle.ir_check.specs.Checks.{IsCheckRefusal}
use Rattle.llc_top.specs.Partial.{HasCheckedReason, HasReadReason}
use Rattle.llc_top.proofs.Outcomes.{answer-weaker, checked_reason}
use Rattle.llc_top.proofs.Telling.{tells-nothing}
use Rattle.llc_top.proofs.Unread.{unread_answer}
use Rattle.llc_top.proofs.serve.serve_read.Goals as goal

pub returns-in-Err-clause-answer : goal.returns-in-Err-clause-answer
returns-in-Err-clause-answer g c =
    unread_answer (HasReadReason c.args.command.now c.args.m) (IsCheckRefusal c.args.m) (λ e refused. inl refused) _ _
    (tells-nothing g.O.Sink.written g.O.Sink.faults c.args.out.now) c.in-Err.refusal c.answer_unread.result c.in-Err.ensures c.answer_unread.ensures

pub returns-in-Ok-clause-answer : goal.returns-in-Ok-clause-answer
returns-in-Ok-clause-answer g c =
    answer-weaker (HasCheckedReason c.args.command.now c.in-Ok.checked) (HasReadReason c.args.command.now c.args.m) c.serve_checked.result _ _
    (checked_reason c.args.command.now c.args.m c.in-Ok.checked c.in-Ok.ensures) c.serve_checked.ensures.answer
