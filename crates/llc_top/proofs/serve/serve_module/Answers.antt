use Rattle.std.proofs.Common.{refl, sym, ◌∙◌}
use Rattle.llc_top.specs.Partial.{HasModuleReason, HasRunReason}
use Rattle.llc_top.proofs.Outcomes.{answer-weaker, run_reason, written_answer}
use Rattle.llc_top.proofs.Telling.{tells-nothing}
use Rattle.llc_top.proofs.serve.serve_module.Goals as goal

pub returns-in-Compile-clause-answer : goal.returns-in-Compile-clause-answer
returns-in-Compile-clause-answer g c =
    written_answer (HasModuleReason c.args.command.now c.args.m.now) c.args.m.now c.write_output.result _ _
    (tells-nothing g.E.Sink.written g.E.Sink.faults c.args.err.now)
    (sym c.mode.ensures ∙ c.in-Compile.is, refl) c.write_output.ensures

pub returns-in-Run-clause-answer : goal.returns-in-Run-clause-answer
returns-in-Run-clause-answer g c =
    answer-weaker (HasRunReason c.args.command.now c.args.m.now) (HasModuleReason c.args.command.now c.args.m.now) c.run_module.result _ _
    (run_reason c.args.command.now c.args.m.now (sym c.mode.ensures ∙ c.in-Run.is)) c.run_module.ensures.answer
