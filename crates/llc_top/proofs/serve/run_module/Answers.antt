use Rattle.std.proofs.Common.{refl, sym, inl, inr}
use Rattle.ir_syntax.specs.declared.refusal.Refusal.TheVariants as refusals
use Rattle.llc_top.specs.Partial.{HasRunReason}
use Rattle.llc_top.proofs.Outcomes.{executed_answer, refusal_answer, unlinked_answer}
use Rattle.llc_top.proofs.Telling.{tells-nothing}
use Rattle.llc_top.proofs.serve.run_module.Goals as goal

pub returns-then-not-defines_main-clause-answer : goal.returns-then-not-defines_main-clause-answer
returns-then-not-defines_main-clause-answer g c =
    refusal_answer (HasRunReason c.args.command.now c.args.m.now) _ _ (tells-nothing g.O.Sink.written g.O.Sink.faults c.args.out.now)
    refusals.NoMain c.answer_refusal.result (inl (inl (sym c.if-not-defines_main.ensures, refl))) c.answer_refusal.ensures

pub returns-then-not-has_main-clause-answer : goal.returns-then-not-has_main-clause-answer
returns-then-not-has_main-clause-answer g c =
    refusal_answer (HasRunReason c.args.command.now c.args.m.now) _ _ (tells-nothing g.O.Sink.written g.O.Sink.faults c.args.out.now)
    refusals.BadMain c.answer_refusal-then-not-has_main.result
    (inl (inr (sym c.if-not-defines_main.ensures, sym c.if-not-has_main.ensures, refl))) c.answer_refusal-then-not-has_main.ensures

pub returns-in-Ok-clause-answer : goal.returns-in-Ok-clause-answer
returns-in-Ok-clause-answer g c =
    executed_answer (HasRunReason c.args.command.now c.args.m.now) c.args.command.now c.in-Ok.image c.execute.result _ _
    (refl, sym c.if-not-has_main.ensures, c.in-Ok.ensures.image) c.execute.ensures

pub returns-in-Err-clause-answer : goal.returns-in-Err-clause-answer
returns-in-Err-clause-answer g c =
    unlinked_answer (HasRunReason c.args.command.now c.args.m.now) _ _ (tells-nothing g.O.Sink.written g.O.Sink.faults c.args.out.now)
    c.in-Err.why c.answer_unlinked.result (λ some. inr (sym c.if-not-has_main.ensures, (c.in-Err.why, c.in-Err.ensures.unlinked, some, refl)))
    c.answer_unlinked.ensures
