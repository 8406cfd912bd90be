-- A machine that comes to a call that puts a byte puts it in its next step.
use Rattle.std.proofs.Common.{◌≡◌, ◌∙◌, ap, ℕ, zero, suc, ◌%◌, ◌<◌, List, [], ◌∷◌, length, length-append, arith}
use Rattle.rv_mach.specs.declared.stop.Stop.TheVariants.{Running}
use Rattle.rv_mach.specs.State.{State, fresh, register}
use Rattle.rv_isa.specs.Registers.{a0}
use Rattle.rv_isa.specs.Format.{low_bits}
use Rattle.rv_mach.specs.Actions.{action_of}
use Rattle.rv_mach.specs.Step.{act, called, performed, puts, settled, step}
use Rattle.rv_mach.specs.Run.{IsAtPut, run_of}
use Rattle.rv_mach.proofs.Runs.{run_of-suc_first}
use Rattle.rv_mach.proofs.Steps.{step-at}

-- what such a call does
put-acts : (input : List ℕ) (m : State) (at : IsAtPut m) → act input at.next m ≡ puts (register a0 m % 0x100) m
put-acts input m at =
    let next = at.next in
    ap (λ op. performed (action_of op (register next.rs1 m) (register next.rs2 m) (low_bits 64 next.imm) m.pc) next.rd input m) at.is_call
    ∙ ap (λ number. called number input m) at.number

pub put-output : (input : List ℕ) (m : State) → m.stop ≡ Running → IsAtPut m → (step input (fresh m)).output ≡ register a0 m % 0x100 ∷ []
put-output input m going at =
    ap (λ r. r.output) (step-at input (fresh m) at.next going at.is_next ∙ ap (λ e. settled e []) (put-acts input m at))

-- any run from there shows a byte
pub put-shows : (input : List ℕ) (n : ℕ) (m : State) → m.stop ≡ Running → IsAtPut m → 0 < n → 0 < length (run_of input n m).output
put-shows input zero m going at some = absurd (omega (arith, some))
put-shows input (suc n) m going at some =
    omega (
      arith,
      ap (λ r. length r.output) (run_of-suc_first input n m)
          ∙ length-append (step input (fresh m)).output (run_of input n (step input (fresh m)).machine).output,
      ap length (put-output input m going at),
    )
