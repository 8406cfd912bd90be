use Rattle.std.proofs.Common.{◌≡◌, ◌∙◌, ap, inl, inr, subst}
use Rattle.std.specs.Io.KnownBytes.{Appends}
use Rattle.rv_isa.specs.Lines.{ended}
use Rattle.rv_mach.specs.Run.{run_of}
use Rattle.rv_mach.specs.State.{State, start}
use Rattle.rv_mach.specs.declared.stop.Stop.{Stop}
use Rattle.llc_top.specs.Outcome.{image_run}
use Rattle.llc_top.specs.Stops.{stop_text}
use Rattle.llc_top.specs.Streams.{sink_change, CutOff, TellsAll}
use Rattle.llc_top.proofs.Executing.{cut_off_part}
use Rattle.llc_top.proofs.Telling.{tells-nothing}
use Rattle.llc_top.proofs.execute.execute.Goals as goal

pub returns-in_default-run : goal.returns-in_default-run
returns-in_default-run g c =
    inl (
      record {
        part = cut_off_part c.args.command.now.input c.args.command.now.steps _ _ (start c.args.image.now.bytes) _ _ c.in-Ok.ensures
            (rw (c.input.ensures, c.steps.ensures) at c.in_default-run.ensures.cut_off);
        fault = c.in_default-run.ensures.fault;
      },
      tells-nothing g.E.Sink.written g.E.Sink.faults c.args.err.now,
    )

pub returns-in-Ok-tell_stop : goal.returns-in-Ok-tell_stop
returns-in-Ok-tell_stop g c =
    let stop : c.in-Ok-run.stop ≡ (image_run c.args.command.now c.args.image.now).stop =
    (rw (c.input.ensures, c.steps.ensures) at c.in-Ok-run.ensures.stop)
    ∙ ap (λ (m : State). (run_of c.args.command.now.input c.args.command.now.steps m).machine.stop) c.in-Ok.ensures in
    record {
      results = record {
        appended = subst (λ (m : State). Appends (g.O.Sink.written c.args.out.now) (g.O.Sink.written c.run.new.out)
            (run_of c.args.command.now.input c.args.command.now.steps m).output) c.in-Ok.ensures
            (rw (c.input.ensures, c.steps.ensures) at c.in-Ok-run.ensures.output);
        no_fault = c.in-Ok-run.ensures.no_fault;
      };
      errors = subst (λ (s : Stop). TellsAll (ended (stop_text s)) (sink_change g.E.Sink.written g.E.Sink.faults c.args.err.now c.tell_stop.new.err)) stop
          c.in-Ok-tell_stop.ensures.all;
    }

pub returns : goal.returns
returns g c =
    let stop : c.in-Ok-run.stop ≡ (image_run c.args.command.now c.args.image.now).stop =
    (rw (c.input.ensures, c.steps.ensures) at c.in-Ok-run.ensures.stop)
    ∙ ap (λ (m : State). (run_of c.args.command.now.input c.args.command.now.steps m).machine.stop) c.in-Ok.ensures in
    inr (
      record {
        appended = subst (λ (m : State). Appends (g.O.Sink.written c.args.out.now) (g.O.Sink.written c.run.new.out)
            (run_of c.args.command.now.input c.args.command.now.steps m).output) c.in-Ok.ensures
            (rw (c.input.ensures, c.steps.ensures) at c.in-Ok-run.ensures.output);
        no_fault = c.in-Ok-run.ensures.no_fault;
      },
      subst (λ (s : Stop). CutOff (ended (stop_text s)) (sink_change g.E.Sink.written g.E.Sink.faults c.args.err.now c.tell_stop.new.err)) stop
          c.in-Err.ensures.cut_off,
    )
