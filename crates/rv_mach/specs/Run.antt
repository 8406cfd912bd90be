-- Runs of any number of steps, and what they show.
use Rattle.std.specs.Prelude.{◌≡◌, ◌<◌, ◌+◌, ◌++◌, ℕ, suc, zero, List, Ok}
use Rattle.std.specs.declared.option.Option.{Option}
use Rattle.std.specs.Io.KnownBytes.{Appends}
use Rattle.rv_isa.specs.declared.inst.Inst.{Inst}
use Rattle.rv_isa.specs.declared.op.Op.TheVariants.{Ecall}
use Rattle.rv_mach.specs.declared.stop.Stop.{Stop}
use Rattle.rv_mach.specs.declared.stop.Stop.TheVariants.{Running}
use Rattle.rv_mach.specs.State.{State, Run, fresh, register, start}
use Rattle.rv_isa.specs.Registers.{a7}
use Rattle.rv_mach.specs.Step.{put, step, instruction}

-- n steps of a machine on an input, of which the bytes that were taken before are gone
unfoldable pub run_of : List ℕ → ℕ → State → Run
run_of input zero m = fresh m
run_of input (suc n) m = step input (run_of input n m)

-- what a run shows
pub record Behaviour : Type 0 where
  pub stop : Stop
  pub output : List ℕ

abbrev pub behaviour : Run → Behaviour
behaviour r = record { stop = r.machine.stop; output = r.output }

-- what n steps of an image on an input show
abbrev pub machine_run : List ℕ → List ℕ → ℕ → Behaviour
machine_run image input n = behaviour (run_of input n (start image))

-- the next instruction is a call that puts a byte
pub record IsAtPut (m : State) : Type 0 where
  pub next : Inst
  pub is_next : instruction m ≡ Ok next
  pub is_call : next.op ≡ Ecall
  pub number : register a7 m ≡ put

-- a run that was cut off after fewer steps, before a byte that the sink did not take
pub record IsCutOff (input : List ℕ) (steps : ℕ) (old new : State) (before after : Option (List ℕ)) : Type 0 where
  pub done : ℕ
  pub fewer : done < steps
  pub machine : new ≡ (run_of input done old).machine
  pub output : Appends before after (run_of input done old).output
  pub going : new.stop ≡ Running
  pub at_put : IsAtPut new

-- a run of a steps and then one of b steps from where it ended are one of a + b
pub record IsJoined (input : List ℕ) (a b : ℕ) (m : State) : Type 0 where
  pub machine : (run_of input (a + b) m).machine ≡ (run_of input b (run_of input a m).machine).machine
  pub output : (run_of input (a + b) m).output
      ≡ (run_of input a m).output ++ (run_of input b (run_of input a m).machine).output
