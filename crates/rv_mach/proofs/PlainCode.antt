-- Code that only computes: it is straight-line code, puts nothing, and leaves the registers that it does not name.
use Rattle.std.proofs.Common.{◌≡◌, ◌∙◌, ap, sym, refl, subst, ℕ, ◌+◌, ◌-◌, ◌*◌, ◌%◌, ◌≤◌, ◌<◌, ◌^◌, List, [], ◌∷◌, ◌++◌, All, length, length-append, arith}
use Rattle.std.specs.Prelude.{◌≢◌}
use Rattle.std.specs.List.{AllByRecursion}
use Rattle.std.proofs.lemmas.List.Elements.{All-head, All-tail, All-from_recursion}
use Rattle.rv_isa.specs.Format.{low_bits}
use Rattle.rv_isa.specs.Instructions.{ret}
use Rattle.rv_isa.specs.Registers.{sp, ra}
use Rattle.rv_isa.specs.declared.inst.Inst.{Inst}
use Rattle.rv_isa.specs.declared.op.Op.{Op}
use Rattle.rv_isa.specs.declared.op.Op.TheVariants.{Addi, Lui}
use Rattle.rv_mach.specs.declared.action.Action.{Action}
use Rattle.rv_mach.specs.declared.action.Action.TheVariants.{Set, Load, Store, Branch, Jump, Pass, Call, Break}
use Rattle.rv_mach.specs.Actions.{action_of}
use Rattle.rv_mach.specs.Layout.{stack_start}
use Rattle.rv_mach.specs.State.{State, Run, fresh, register}
use Rattle.rv_mach.specs.Step.{act, action, performed, settled, sum_of}
use Rattle.rv_mach.specs.Run.{run_of}
use Rattle.rv_mach.specs.Code.{FallsThrough, HasCode, IsStraight, after_code}
use Rattle.rv_mach.proofs.Keeping.{act_kept, fallen}
use Rattle.rv_mach.proofs.Lookups.{register-other}
use Rattle.rv_mach.proofs.Registers.{after_code-file}
use Rattle.rv_mach.proofs.Straight.{StandsAt, run-block}

abbrev pub Sets : Action → Type 0
Sets (Set value) = Unit {0}
Sets (Load size signed address) = ⊥
Sets (Store size value address) = ⊥
Sets (Branch taken target) = ⊥
Sets (Jump target) = ⊥
Sets Pass = ⊥
Sets Call = ⊥
Sets Break = ⊥

-- an instruction that sets a register and does nothing else
abbrev pub Computes : Op → Type 0
Computes op = (a b imm pc : ℕ) → Sets (action_of op a b imm pc)

pub addi-computes : Computes Addi
addi-computes = λ a b imm pc. tt

pub lui-computes : Computes Lui
lui-computes = λ a b imm pc. tt

pub of_action : (i : Inst) (m : State) → Computes i.op → Sets (action i m)
of_action i m computes = computes (register i.rs1 m) (register i.rs2 m) (low_bits 64 i.imm) m.pc

abbrev pub AllCompute : List Inst → Type 0
AllCompute code = All (λ i. Computes i.op) code

-- each of these leaves a register
abbrev pub AllLeave : ℕ → List Inst → Type 0
AllLeave r code = All (λ i. r ≢ i.rd) code

pub all-compute : (code : List Inst) → AllByRecursion (λ i. Computes i.op) code → AllCompute code
all-compute code each = All-from_recursion (λ i. Computes i.op) code each

pub all-leave : (r : ℕ) (code : List Inst) → AllByRecursion (λ i. r ≢ i.rd) code → AllLeave r code
all-leave r code each = All-from_recursion (λ i. r ≢ i.rd) code each

-- what such an instruction leaves
record Computed (r next : Run) : Type 0 where
  pub image : next.machine.image ≡ r.machine.image
  pub stop : next.machine.stop ≡ r.machine.stop
  pub output : next.output ≡ r.output

computed : (a : Action) (rd : ℕ) (input : List ℕ) (r : Run) → Sets a → Computed r (settled (performed a rd input r.machine) r.output)
computed (Set value) rd input r sets = record { image = refl; stop = refl; output = refl }
computed (Load size signed address) rd input r sets = absurd sets
computed (Store size value address) rd input r sets = absurd sets
computed (Branch taken target) rd input r sets = absurd sets
computed (Jump target) rd input r sets = absurd sets
computed Pass rd input r sets = absurd sets
computed Call rd input r sets = absurd sets
computed Break rd input r sets = absurd sets

falls : (a : Action) (rd : ℕ) (input : List ℕ) (m : State) → Sets a → FallsThrough (performed a rd input m)
falls (Set value) rd input m sets = tt
falls (Load size signed address) rd input m sets = absurd sets
falls (Store size value address) rd input m sets = absurd sets
falls (Branch taken target) rd input m sets = absurd sets
falls (Jump target) rd input m sets = absurd sets
falls Pass rd input m sets = absurd sets
falls Call rd input m sets = absurd sets
falls Break rd input m sets = absurd sets

left : (a : Action) (rd : ℕ) (input : List ℕ) (s : ℕ) (m : State) (output : List ℕ) → Sets a → s ≢ rd
    → register s (settled (performed a rd input m) output).machine ≡ register s m
left (Set value) rd input s m output sets other = register-other rd s value m other
left (Load size signed address) rd input s m output sets other = absurd sets
left (Store size value address) rd input s m output sets other = absurd sets
left (Branch taken target) rd input s m output sets other = absurd sets
left (Jump target) rd input s m output sets other = absurd sets
left Pass rd input s m output sets other = absurd sets
left Call rd input s m output sets other = absurd sets
left Break rd input s m output sets other = absurd sets

-- registers that it does not name
pub register-left : (input : List ℕ) (code : List Inst) (s : ℕ) (r : Run) → AllCompute code → AllLeave s code
    → register s (after_code input code r).machine ≡ register s r.machine
register-left input [] s r computes leaves = refl
register-left input (i ∷ code) s r computes leaves =
    register-left input code s (settled (act input i r.machine) r.output) (All-tail (λ j. Computes j.op) i code computes) (All-tail (λ j. s ≢ j.rd) i code leaves)
    ∙ left (action i r.machine) i.rd input s r.machine r.output (of_action i r.machine (All-head (λ j. Computes j.op) i code computes)) (All-head (λ j. s ≢ j.rd) i code leaves)

code-computed : (input : List ℕ) (code : List Inst) (r : Run) → AllCompute code → Computed r (after_code input code r)
code-computed input [] r computes = record { image = refl; stop = refl; output = refl }
code-computed input (i ∷ code) r computes =
    let first = computed (action i r.machine) i.rd input r (of_action i r.machine (All-head (λ j. Computes j.op) i code computes)) in
    let later = code-computed input code (settled (act input i r.machine) r.output) (All-tail (λ j. Computes j.op) i code computes) in
    record { image = later.image ∙ first.image; stop = later.stop ∙ first.stop; output = later.output ∙ first.output }

-- it may end in any instruction
pub plain-straight : (input : List ℕ) (code : List Inst) (last : Inst) (m : State) → AllCompute code → AllLeave sp code
    → stack_start ≤ register sp m → HasCode m.image m.pc (code ++ last ∷ []) → m.pc + 4 * length (code ++ last ∷ []) ≤ 2 ^ 64
    → IsStraight input (code ++ last ∷ []) m
plain-straight input [] last m computes leaves room has fits = room
plain-straight input (i ∷ []) last m computes leaves room has fits =
    let sets = of_action i m (All-head (λ j. Computes j.op) i [] computes) in
    let kept = computed (action i m) i.rd input (fresh m) sets in (
      room,
      falls (action i m) i.rd input m sets,
      subst (λ image. HasCode image (m.pc + 4) (last ∷ [])) (sym kept.image) has.1,
      subst (λ n. stack_start ≤ n) (sym (left (action i m) i.rd input sp m [] sets (All-head (λ j. sp ≢ j.rd) i [] leaves))) room,
    )
plain-straight input (i ∷ next ∷ code) last m computes leaves room has fits =
    let sets = of_action i m (All-head (λ j. Computes j.op) i (next ∷ code) computes) in
    let kept = computed (action i m) i.rd input (fresh m) sets in
    let next_machine : State = (settled (act input i m) []).machine in
    let on = fallen (act input i m) m [] (act_kept input i m) (falls (action i m) i.rd input m sets) in
    let pc : next_machine.pc ≡ m.pc + 4 = on.pc ∙ omega arith in
    let back : HasCode next_machine.image (m.pc + 4) (next ∷ (code ++ last ∷ [])) =
    subst (λ image. HasCode image (m.pc + 4) (next ∷ (code ++ last ∷ []))) (sym kept.image) has.1 in (
      room,
      falls (action i m) i.rd input m sets,
      back,
      plain-straight input (next ∷ code) last next_machine (All-tail (λ j. Computes j.op) i (next ∷ code) computes)
          (All-tail (λ j. sp ≢ j.rd) i (next ∷ code) leaves)
          (subst (λ n. stack_start ≤ n) (sym (left (action i m) i.rd input sp m [] sets (All-head (λ j. sp ≢ j.rd) i (next ∷ code) leaves))) room)
          (subst (λ a. HasCode next_machine.image a (next ∷ (code ++ last ∷ []))) (sym pc) back) (omega arith),
    )

after_code-append : (input : List ℕ) (prefix back : List Inst) (r : Run) → after_code input (prefix ++ back) r ≡ after_code input back (after_code input prefix r)
after_code-append input [] back r = refl
after_code-append input (i ∷ prefix) back r = after_code-append input prefix back (settled (act input i r.machine) r.output)

-- Code that only computes and then returns: the machine stands where it was called from, with the registers that the code leaves.
pub record Returned (image input : List ℕ) (code : List Inst) (m : State) (back : ℕ) : Type 0 where
  pub next : State
  pub ran : run_of input (length code + 1) m ≡ fresh next
  pub registers : next.registers ≡ (after_code input code (fresh m)).machine.registers
  pub at : StandsAt image back next

pub plain-returns : (image input : List ℕ) (address back : ℕ) (code : List Inst) (m : State) → StandsAt image address m
    → HasCode image address (code ++ ret ∷ []) → address + 4 * (length code + 1) ≤ 2 ^ 64 → AllCompute code → AllLeave sp code → AllLeave ra code
    → register ra m ≡ back → back % 2 ≡ 0 → back < 2 ^ 64 → Returned image input code m back
plain-returns image input address back code m at has fits computes leaves keeps called even small =
    let done : Run = after_code input code (fresh m) in
    let m' : State = done.machine in
    let kept = code-computed input code (fresh m) computes in
    let link : register ra m' ≡ back = register-left input code ra (fresh m) computes keeps ∙ called in
    let stack : register sp m' ≡ register sp m = register-left input code sp (fresh m) computes leaves in
    let target : sum_of ret m' - sum_of ret m' % 2 ≡ back = omega arith in
    let here : HasCode m.image m.pc (code ++ ret ∷ []) =
    subst (λ bytes. HasCode bytes m.pc (code ++ ret ∷ [])) (sym at.image_is) (subst (λ a. HasCode image a (code ++ ret ∷ [])) (sym at.pc_is) has) in
    let many : length (code ++ ret ∷ []) ≡ length code + 1 = length-append code (ret ∷ []) in
    let returned : ℕ → List ℕ → Run = λ pc output. record { machine = record m' { pc = pc }; output = output } in
    record {
      next = record m' { pc = back };
      ran =
          ap (λ n. run_of input n m) (sym many)
          ∙ run-block image input address (code ++ ret ∷ []) m at has (omega arith) (plain-straight input code ret m computes leaves at.room here (omega (arith, at.pc_is)))
          ∙ after_code-append input code (ret ∷ []) (fresh m)
          ∙ ap (λ pc. returned pc done.output) target
          ∙ ap (returned back) kept.output;
      registers = refl;
      at = record {
        image_is = kept.image ∙ at.image_is;
        pc_is = refl;
        going = kept.stop ∙ at.going;
        room = subst (λ n. stack_start ≤ n) (sym stack) at.room;
        file = after_code-file input code (fresh m) at.file;
      };
    }
