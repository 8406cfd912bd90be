use Rattle.std.proofs.Common.{◌∙◌, ℕ, subst, sym, inl, refl}
use Rattle.cg_built.specs.Unbuilt.{IsBuilt, first_unbuilt}
use Rattle.ir_check.specs.Checks.{IsChecked}
use Rattle.ir_syntax.specs.declared.module.Module.{Module}
use Rattle.ir_syntax.specs.declared.refusal.Refusal.TheVariants as refusals
use Rattle.llc_top.specs.Outcome.{Answers}
use Rattle.llc_top.specs.Partial.{HasModuleReason, HasCheckedReason, ToldRefusal}
use Rattle.llc_top.specs.Streams.{sink_change}
use Rattle.llc_top.proofs.Outcomes.{answer-weaker, built_reason, refusal_answer}
use Rattle.llc_top.proofs.Telling.{tells-nothing}
use Rattle.llc_top.proofs.serve.serve_checked.Goals as goal

pub returns-in-Ok-None-clause-answer : goal.returns-in-Ok-None-clause-answer
returns-in-Ok-None-clause-answer g c =
    let built : IsBuilt c.args.checked.now = record {
      checked = subst IsChecked c.module-m.ensures.value c.module-m.ensures.checked;
      built = sym c.in-Ok-None.ensures ∙ c.in-Ok-None.field-0-is;
    } in
    answer-weaker (HasModuleReason c.args.command.now c.args.checked.now) (HasCheckedReason c.args.command.now c.args.checked.now) c.serve_module.result _ _
    (built_reason c.args.command.now c.args.checked.now built)
    (subst (λ (m : Module). Answers (HasModuleReason c.args.command.now m) c.serve_module.result
    (sink_change g.O.Sink.written g.O.Sink.faults c.args.out.now c.serve_module.new.out) (sink_change g.E.Sink.written g.E.Sink.faults c.args.err.now c.serve_module.new.err))
    c.module-m.ensures.value c.serve_module.ensures.answer)

pub returns-in-Ok-Some-clause-answer : goal.returns-in-Ok-Some-clause-answer
returns-in-Ok-Some-clause-answer g c =
    refusal_answer (HasCheckedReason c.args.command.now c.args.checked.now) _ _ (tells-nothing g.O.Sink.written g.O.Sink.faults c.args.out.now)
    (refusals.NotYet c.in-Ok-Some.line) c.answer_refusal.result
    (inl (c.in-Ok-Some.line, sym c.in-Ok-Some.ensures ∙ c.in-Ok-Some.field-0-is, refl))
    (subst
    (λ (line : ℕ). ToldRefusal (refusals.NotYet line) c.answer_refusal.result (sink_change g.E.Sink.written g.E.Sink.faults c.args.err.now c.answer_refusal.new.err))
    c.in-Ok-Some.line-is c.answer_refusal.ensures)
