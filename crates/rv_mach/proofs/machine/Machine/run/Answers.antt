use Rattle.std.proofs.Common.{◌≡◌, ◌≤◌, ◌∙◌, sym, ap, Ok, arith, rules}
use Rattle.std.proofs.KnownBytes.{Appends-nil}
use Rattle.rv_mach.specs.declared.stop.Stop.TheVariants.{Running}
use Rattle.rv_mach.specs.Run.{run_of}
use Rattle.rv_mach.proofs.Runs.{run_of-ended, machine-next, output-next}
use Rattle.rv_mach.proofs.machine.Machine.run.Goals as goal

pub loop-init : goal.loop-init
unfolding run_of
loop-init g c = record { ran = search rules; put = search (rules, Appends-nil); idle = search rules; kept = search rules }

pub loop-preserved : goal.loop-preserved
loop-preserved g c =
    record {
      ran = machine-next _ _ _ _ _ c.loop.invariant.ran c.in_ok-step-in-Running.ensures.machine;
      put = output-next _ _ _ _ _ _ _ c.loop.invariant.ran c.loop.invariant.put c.in_ok-step-in-Running.ensures.output;
      idle = λ stopped. let same = (c.loop.invariant.idle stopped).0 in
          absurd (stopped (ap (λ m. m.stop) (sym same ∙ sym c.self.view_is) ∙ c.in-Running.is));
      kept = search rules;
    }

pub returns-in_default : goal.returns-in_default
returns-in_default g c =
    let stopped : c.loop.self.stop ≡ Running → ⊥ =
    λ e. c.in_default.not-Running (ap (λ m. m.stop) c.self.view_is ∙ e) in
    let within : c.loop.counter ≤ c.args.steps = omega arith in
    let same = run_of-ended _ _ _ _ _ c.loop.invariant.ran stopped within in
    let ran : c.loop.self ≡ (run_of c.args.input.now c.args.steps c.args.self.now).machine =
    c.loop.invariant.ran ∙ ap (λ r. r.machine) same in
    record {
      stop = ap (λ m. m.stop) (c.self.view_is ∙ ran);
      machine = ran;
      output = rw (← same) c.loop.invariant.put;
      stopped = λ at_start. let idle = c.loop.invariant.idle at_start in
          (ap (λ m. Ok m.stop) (c.self.view_is ∙ idle.0), idle.0, idle.1);
      cut_off = tt;
      written = tt;
      fault = tt;
      no_fault = search rules;
      later = search rules;
    }
