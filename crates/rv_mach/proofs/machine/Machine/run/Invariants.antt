use Rattle.std.proofs.Common.{◌≡◌}
use Rattle.std.specs.Io.KnownBytes.{Appends}
use Rattle.rv_mach.specs.declared.stop.Stop.TheVariants.{Running}
use Rattle.rv_mach.specs.Run.{run_of}
use Rattle.rv_mach.proofs.machine.Machine.run.Given as goal

abbrev pub invariant-loop : goal.invariant-loop
invariant-loop g l = record {
  ran : l.self ≡ (run_of l.input l.counter l.initial.self).machine;
  put : Appends (g.O.Sink.written l.initial.out) (g.O.Sink.written l.out)
      (run_of l.input l.counter l.initial.self).output;
  idle : (l.initial.self.stop ≡ Running → ⊥) → (l.self ≡ l.initial.self) × (l.out ≡ l.initial.out);
  kept : g.O.Sink.faults l.out ≡ g.O.Sink.faults l.initial.out;
}
