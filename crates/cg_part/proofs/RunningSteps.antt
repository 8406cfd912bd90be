-- A machine that runs for some steps, puts nothing, and exits at the next.
use Rattle.std.proofs.Common.{◌≡◌, ◌≤◌, ◌<◌, ◌%◌, ◌^◌, ℕ, suc, List, [], Ok, ap, ap₂, sym, ◌∙◌, arith}
use Rattle.rv_isa.specs.Instructions.{ecall}
use Rattle.rv_isa.specs.Registers.{a0, a7}
use Rattle.rv_mach.specs.Layout.{fetched}
use Rattle.rv_mach.specs.Run.{Behaviour, behaviour, machine_run, run_of}
use Rattle.rv_mach.specs.State.{State, fresh, register, start}
use Rattle.rv_mach.specs.Step.{called, exit, instruction_fetched, settled, step}
use Rattle.rv_mach.specs.declared.stop.Stop.{Stop}
use Rattle.rv_mach.specs.declared.stop.Stop.TheVariants.{Exited, Running}
use Rattle.rv_mach.proofs.OnTheWay.{going-before, quiet-before}
use Rattle.rv_mach.proofs.Runs.{run_of-suc, run_of-ended}
use Rattle.rv_mach.proofs.Straight.{StandsAt, step-code}

-- a machine shows that it stands so, and has put nothing
abbrev pub quiet : Stop → Behaviour
quiet stop = record { stop = stop; output = [] }

-- a machine runs this many steps, exits with a code at the next, and puts nothing
pub record ExitsAfter (image input : List ℕ) (steps code : ℕ) : Type 0 where
  pub runs : (n : ℕ) → n ≤ steps → machine_run image input n ≡ quiet Running
  pub exits : (n : ℕ) → steps < n → machine_run image input n ≡ quiet (Exited code)

-- a machine that has put nothing is at a call that exits
pub exits_at : (image input : List ℕ) (steps address : ℕ) (m : State) → run_of input steps (start image) ≡ fresh m → StandsAt image address m
    → instruction_fetched (fetched m.image m.pc) ≡ Ok ecall → register a7 m ≡ exit → ExitsAfter image input steps (register a0 m % 2 ^ 32)
exits_at image input steps address m ran at has number =
    let begun : State = start image in
    let last : State = record m { stop = Exited (register a0 m % 2 ^ 32) } in
    let ended : run_of input (suc steps) begun ≡ fresh last =
    run_of-suc input steps begun ∙ ap (step input) ran ∙ step-code input (fresh m) ecall at.going at.room has
    ∙ ap (λ n. settled (called n input m) []) number in
    record {
      runs = λ n within.
          ap₂ (λ stop output. record { stop = stop; output = output })
          (going-before input n steps begun within (ap (λ r. r.machine.stop) ran ∙ at.going))
          (quiet-before input n steps begun within (ap (λ r. r.output) ran));
      exits = λ n after.
          ap behaviour (sym (run_of-ended input (suc steps) n begun last (sym (ap (λ r. r.machine) ended)) (λ e. cc) (omega arith)))
          ∙ ap behaviour ended;
    }
