-- A step of a machine that goes on, by the word at its address.
use Rattle.std.proofs.Common.{◌≡◌, ◌∙◌, ap, ℕ, ◌+◌, ◌-◌, ◌%◌, ◌≤◌, List, length, Bool, false, nat_lt, Ok, Err, Result, if◌then◌else◌, arith}
use Rattle.std.proofs.lemmas.Bool.Decides.{nat_tests}
use Rattle.rv_isa.specs.declared.inst.Inst.{Inst}
use Rattle.rv_mach.specs.declared.stop.Stop.{Stop}
use Rattle.rv_mach.specs.declared.stop.Stop.TheVariants.{Running, StackOut}
use Rattle.rv_mach.specs.Layout.{fetched, word_at, image_start, stack_start}
use Rattle.rv_mach.specs.State.{State, Run, register}
use Rattle.rv_isa.specs.Registers.{sp}
use Rattle.rv_mach.specs.Step.{act, executed, instruction, instruction_fetched, settled, step, step_by}

pub fetched-at : (image : List ℕ) (address : ℕ) → address % 4 ≡ 0 → image_start ≤ address
    → address + 4 ≤ image_start + length image → fetched image address ≡ Ok (word_at image (address - image_start))
fetched-at image address aligned above below = grind (arith, nat_tests)

-- the instruction at the machine's address, where the stack has room
pub instruction-has : (m : State) (i : Inst) → stack_start ≤ register sp m → instruction_fetched (fetched m.image m.pc) ≡ Ok i
    → instruction m ≡ Ok i
instruction-has m i room has =
    let below : nat_lt (register sp m) stack_start ≡ false = grind (arith, nat_tests) in
    let from : Bool → Result Inst Stop =
    λ b. if b then Err StackOut else instruction_fetched (fetched m.image m.pc) in
    ap from below ∙ has

pub step-at : (input : List ℕ) (r : Run) (i : Inst) → r.machine.stop ≡ Running → instruction r.machine ≡ Ok i
    → step input r ≡ settled (act input i r.machine) r.output
step-at input r i going next =
    ap (λ stop. step_by stop input r) going ∙ ap (λ found. settled (executed found input r.machine) r.output) next
