-- A machine runs through straight-line code in as many steps as the code has instructions.
use Rattle.std.proofs.Common.{◌≡◌, ◌∙◌, ap, sym, subst, refl, ℕ, suc, zero, ◌+◌, ◌*◌, ◌≤◌, ◌^◌, List, [], ◌∷◌, Ok, length, take, arith}
use Rattle.std.proofs.lemmas.List.{take_all}
use Rattle.rv_isa.specs.declared.inst.Inst.{Inst}
use Rattle.rv_isa.specs.Registers.{sp}
use Rattle.rv_mach.specs.declared.stop.Stop.TheVariants.{Running}
use Rattle.rv_mach.specs.Layout.{fetched, stack_start}
use Rattle.rv_mach.specs.State.{State, Run, fresh, prefixed, register}
use Rattle.rv_mach.specs.Step.{act, instruction_fetched, settled, step}
use Rattle.rv_mach.specs.Registers.{IsRegisterFile}
use Rattle.rv_mach.specs.Run.{run_of}
use Rattle.rv_mach.specs.Code.{HasCode, IsStraight, after_code}
use Rattle.rv_mach.proofs.Runs.{run_of-zero, run_of-suc_first, settled-prefixed, prefixed-fresh}
use Rattle.rv_mach.proofs.Steps.{instruction-has, step-at}
use Rattle.rv_mach.proofs.Keeping.{GoesOn, fallen, act_kept}

-- what was put before changes nothing
pub after_code-prefixed : (input prefix : List ℕ) (code : List Inst) (r : Run) → after_code input code (prefixed prefix r) ≡ prefixed prefix (after_code input code r)
after_code-prefixed input prefix [] r = refl
after_code-prefixed input prefix (i ∷ code) r =
    ap (after_code input code) (settled-prefixed (act input i r.machine) prefix r.output)
    ∙ after_code-prefixed input prefix code (settled (act input i r.machine) r.output)

-- the step at the first instruction of code
pub step-code : (input : List ℕ) (r : Run) (i : Inst) → r.machine.stop ≡ Running → stack_start ≤ register sp r.machine
    → instruction_fetched (fetched r.machine.image r.machine.pc) ≡ Ok i → step input r ≡ settled (act input i r.machine) r.output
step-code input r i going room has = step-at input r i going (instruction-has r.machine i room has)

-- a run whose first step is known
run-first : (input : List ℕ) (n : ℕ) (m : State) (r : Run) → step input (fresh m) ≡ r → run_of input (suc n) m ≡ prefixed r.output (run_of input n r.machine)
run-first input n m r is = run_of-suc_first input n m ∙ ap (λ s. prefixed s.output (run_of input n s.machine)) is

-- a run of no more steps than straight-line code has instructions goes through as many of them
pub run-through : (input : List ℕ) (code : List Inst) (n : ℕ) (m : State) → n ≤ length code → HasCode m.image m.pc code → m.stop ≡ Running
    → m.pc + 4 * length code ≤ 2 ^ 64 → IsStraight input code m → run_of input n m ≡ after_code input (take n code) (fresh m)
run-through input code zero m within has going fits straight = run_of-zero input m
run-through input [] (suc n) m within has going fits straight = absurd (omega arith)
run-through input (i ∷ []) (suc n) m within has going fits straight =
    let r : Run = settled (act input i m) [] in
    let none : n ≡ 0 = omega arith in
    ap (λ k. run_of input (suc k) m) none
    ∙ run-first input 0 m r (step-code input (fresh m) i going straight has.0)
    ∙ ap (prefixed r.output) (run_of-zero input r.machine)
    ∙ sym (prefixed-fresh r)
    ∙ ap (λ k. after_code input (take (suc k) (i ∷ [])) (fresh m)) (sym none)
run-through input (i ∷ next ∷ code) (suc n) m within has going fits straight =
    let r : Run = settled (act input i m) [] in
    let on : GoesOn m r.machine = fallen (act input i m) m [] (act_kept input i m) straight.1 in
    let pc : r.machine.pc ≡ m.pc + 4 = on.pc ∙ omega arith in
    let later : HasCode r.machine.image r.machine.pc (next ∷ code) =
    subst (λ a. HasCode r.machine.image a (next ∷ code)) (sym pc) straight.2 in
    run-first input n m r (step-code input (fresh m) i going straight.0 has.0)
    ∙ ap (prefixed r.output)
    (run-through input (next ∷ code) n r.machine (omega arith) later (on.stop ∙ going) (omega arith) straight.3)
    ∙ sym (after_code-prefixed input r.output (take n (next ∷ code)) (fresh r.machine))
    ∙ ap (after_code input (take n (next ∷ code))) (sym (prefixed-fresh r))

-- and of as many steps through all
pub run-code : (input : List ℕ) (code : List Inst) (m : State) → HasCode m.image m.pc code → m.stop ≡ Running
    → m.pc + 4 * length code ≤ 2 ^ 64 → IsStraight input code m → run_of input (length code) m ≡ after_code input code (fresh m)
run-code input code m has going fits straight =
    run-through input code (length code) m (omega arith) has going fits straight
    ∙ ap (λ all. after_code input all (fresh m)) (take_all (length code) code (omega arith))

-- a machine that goes on at an address of an image, with room on its stack and whole registers
pub record StandsAt (image : List ℕ) (address : ℕ) (m : State) : Type 0 where
  pub image_is : m.image ≡ image
  pub pc_is : m.pc ≡ address
  pub going : m.stop ≡ Running
  pub room : stack_start ≤ register sp m
  pub file : IsRegisterFile m.registers

pub run-block : (image input : List ℕ) (address : ℕ) (code : List Inst) (m : State) → StandsAt image address m → HasCode image address code
    → address + 4 * length code ≤ 2 ^ 64 → IsStraight input code m → run_of input (length code) m ≡ after_code input code (fresh m)
run-block image input address code m at has fits straight =
    let here : HasCode m.image m.pc code =
    subst (λ bytes. HasCode bytes m.pc code) (sym at.image_is) (subst (λ a. HasCode image a code) (sym at.pc_is) has) in
    let end : m.pc + 4 * length code ≤ 2 ^ 64 = omega (arith, at.pc_is) in
    run-code input code m here at.going end straight
