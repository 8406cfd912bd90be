-- What a machine shows whose image begins with the runtime's start, where `main` returns a constant.
use Rattle.std.proofs.Common.{◌≡◌, ◌+◌, ◌-◌, ◌%◌, ◌≤◌, ◌^◌, ◌<◌, ◌++◌, ◌∷◌, [], ℕ, ℤ, pos, Bool, true, false, cond, List, length, Ok, refl, ap, ap₂, sym, ◌∙◌, arith, subst}
use Rattle.std.specs.Prelude.{slice_index}
use Rattle.rv_isa.specs.Encoding.{IsSigned12}
use Rattle.rv_isa.specs.Format.{low_bits}
use Rattle.rv_isa.specs.Instructions.{addi, ecall, mv, ret}
use Rattle.rv_isa.specs.Registers.{a0, a7, ra, sp}
use Rattle.rv_isa.specs.Text.{is_zero}
use Rattle.rv_isa.specs.declared.inst.Inst.{Inst}
use Rattle.rv_mach.specs.Code.{HasCode, after_code}
use Rattle.rv_mach.specs.Layout.{fetched}
use Rattle.rv_mach.specs.Registers.{IsRegisterFile}
use Rattle.rv_mach.specs.Run.{run_of}
use Rattle.rv_mach.specs.State.{State, fresh, register, start, wrapped}
use Rattle.rv_mach.specs.Step.{instruction_fetched, sum_of, upper_immediate}
use Rattle.rv_mach.proofs.CodeParts.{has-prefix, has-back}
use Rattle.rv_mach.proofs.Lookups.{register-same, register-other}
use Rattle.rv_mach.proofs.OnTheWay.{run-then}
use Rattle.rv_mach.proofs.PlainCode.{AllCompute, AllLeave, addi-computes, all-compute, all-leave, lui-computes, plain-returns, plain-straight}
use Rattle.rv_mach.proofs.Registers.{after_code-file, start-file}
use Rattle.rv_mach.proofs.Straight.{StandsAt, run-block}
use Rattle.obj_link.specs.Words.{high_part, low_part}
use Rattle.cg_part.specs.Code.{value_code}
use Rattle.cg_part.proofs.Programs.{load_high, call_low, start_code}
use Rattle.cg_part.proofs.RunningSteps.{ExitsAfter, exits_at}
use Rattle.cg_part.proofs.RunningValues.{call_target, loaded, moved, zero_bits}

-- the start's code up to its call, and behind it
abbrev before_call : ℕ → List Inst
before_call address = addi 10 0 (pos 0) ∷ addi 11 0 (pos 0) ∷ load_high 1 address ∷ []

abbrev after_call : List Inst
after_call = addi 17 0 (pos 93) ∷ ecall ∷ []

before_computes : (address : ℕ) → AllCompute (before_call address)
before_computes address = all-compute (before_call address) (addi-computes, (addi-computes, (lui-computes, tt)))

before_leaves : (address : ℕ) → AllLeave sp (before_call address)
before_leaves address = all-leave sp (before_call address) ((λ e. cc), ((λ e. cc), ((λ e. cc), tt)))

-- `main` was called after four steps, with the address behind the call in ra
record Called (image input : List ℕ) (address : ℕ) : Type 0 where
  pub m : State
  pub ran : run_of input 4 (start image) ≡ fresh m
  pub at : StandsAt image address m
  pub back : register ra m ≡ 0x10010

start_calls : (image input : List ℕ) (address : ℕ) → address % 4 ≡ 0 → address < 2 ^ 30 → HasCode image 0x10000 (start_code address) → Called image input address
start_calls image input address aligned small code =
    let begun : State = start image in
    let calling : List Inst = before_call address ++ call_low 1 address ∷ [] in
    let target = call_target address small in
    let upper : ℕ = upper_immediate (pos (high_part address)) in
    let sum : ℕ = wrapped (upper + low_bits 64 (low_part address)) in
    let there : sum - sum % 2 ≡ address = omega (arith, target) in
    let at : StandsAt image 0x10000 begun =
    record { image_is = refl; pc_is = refl; going = refl; room = omega arith; file = start-file image } in
    let ran : run_of input 4 begun ≡ after_code input calling (fresh begun) =
    run-block image input 0x10000 calling begun at (has-prefix image 0x10000 calling after_call code) (omega arith)
    (plain-straight input (before_call address) (call_low 1 address) begun (before_computes address) (before_leaves address) at.room
    (has-prefix image 0x10000 calling after_call code) (omega arith)) in
    record {
      m = (after_code input calling (fresh begun)).machine;
      ran = ran;
      at = record { image_is = refl; pc_is = there; going = refl; room = omega arith; file = after_code-file input calling (fresh begun) at.file };
      back = refl;
    }

-- what the code of a constant leaves in a0, and that it computes alone
record Loads (code : List Inst) (value : ℤ) : Type 0 where
  pub short : length code ≤ 2
  pub computes : AllCompute code
  pub stack : AllLeave sp code
  pub link : AllLeave ra code
  pub result : (input : List ℕ) (m : State) → IsRegisterFile m.registers → register a0 (after_code input code (fresh m)).machine ≡ low_bits 64 value

constant_loads : (zero : Bool) (value : ℤ) → is_zero value ≡ zero → IsSigned12 value
    → Loads (cond zero (addi 10 0 (pos 0) ∷ []) (addi 5 0 value ∷ mv 10 5 ∷ [])) value
constant_loads true value is signed =
    let code : List Inst = addi 10 0 (pos 0) ∷ [] in
    record {
      short = omega arith;
      computes = all-compute code (addi-computes, tt);
      stack = all-leave sp code ((λ e. cc), tt);
      link = all-leave ra code ((λ e. cc), tt);
      result = λ input m file.
          register-same 10 (sum_of (addi 10 0 (pos 0)) m) m (omega arith) (omega (arith, file.count))
          ∙ ap (λ x. wrapped (x + 0)) file.zero
          ∙ sym (zero_bits value is);
    }
constant_loads false value is signed =
    let code : List Inst = addi 5 0 value ∷ mv 10 5 ∷ [] in
    record {
      short = omega arith;
      computes = all-compute code (addi-computes, (addi-computes, tt));
      stack = all-leave sp code ((λ e. cc), ((λ e. cc), tt));
      link = all-leave ra code ((λ e. cc), ((λ e. cc), tt));
      result = λ input m file.
          let one = addi 5 0 value ∷ [] in
          let m' : State = (after_code input one (fresh m)).machine in
          let whole = after_code-file input one (fresh m) file in
          let first : register 5 m' ≡ low_bits 64 value =
          register-same 5 (sum_of (addi 5 0 value) m) m (omega arith) (omega (arith, file.count))
          ∙ ap (λ x. wrapped (x + low_bits 64 value)) file.zero ∙ loaded value signed in
          register-same 10 (sum_of (mv 10 5) m') m' (omega arith) (omega (arith, whole.count))
          ∙ ap (λ x. wrapped (x + 0)) first ∙ moved value signed;
    }

-- A machine that stands behind the call exits with the low 32 bits of a0 at its second step.
behind_call : (image input : List ℕ) (steps : ℕ) (m : State) → run_of input steps (start image) ≡ fresh m → StandsAt image 0x10010 m
    → HasCode image 0x10010 after_call → ExitsAfter image input (steps + 1) (register a0 m % 2 ^ 32)
behind_call image input steps m ran at code =
    let number : List Inst = addi 17 0 (pos 93) ∷ [] in
    let sum : ℕ = sum_of (addi 17 0 (pos 93)) m in
    let next : State = (after_code input number (fresh m)).machine in
    let one : run_of input 1 m ≡ fresh next = run-block image input 0x10010 number m at (code.0, tt) (omega arith) at.room in
    let count = at.file.count in
    let stack : register sp next ≡ register sp m = register-other 17 sp sum m (λ e. cc) in
    let result : register a0 next ≡ register a0 m = register-other 17 a0 sum m (λ e. cc) in
    let exiting : register a7 next ≡ 93 =
    register-same 17 sum m (omega arith) (omega arith) ∙ ap (λ x. wrapped (x + 93)) at.file.zero in
    let there : StandsAt image 0x10014 next =
    record {
      image_is = at.image_is;
      pc_is = ap (λ pc. wrapped (pc + 4)) at.pc_is;
      going = at.going;
      room = omega (arith, at.room);
      file = after_code-file input number (fresh m) at.file;
    } in
    let has : instruction_fetched (fetched next.image next.pc) ≡ Ok ecall =
    ap₂ (λ bytes pc. instruction_fetched (fetched bytes pc)) there.image_is there.pc_is ∙ code.1.0 in
    subst (λ bits. ExitsAfter image input (steps + 1) (bits % 2 ^ 32)) result
    (exits_at image input (steps + 1) 0x10014 next (run-then input steps 1 (start image) (fresh m) (fresh next) ran one) there has exiting)

-- The machine runs 4 instructions of the start, those of the constant, the return and one more, and exits
-- at the next with the low 32 bits of the constant.
pub main_runs : (image input : List ℕ) (address : ℕ) (value : ℤ) → IsSigned12 value → address % 4 ≡ 0 → address < 2 ^ 30
    → HasCode image 0x10000 (start_code address) → HasCode image address (value_code value ++ ret ∷ [])
    → ExitsAfter image input (length (value_code value) + 6) (low_bits 64 value % 2 ^ 32)
main_runs image input address value signed aligned small begin code =
    let call = start_calls image input address aligned small begin in
    let loads : Loads (value_code value) value = constant_loads (is_zero value) value refl signed in
    let short = loads.short in
    let own : ℕ = length (value_code value) + 1 in
    let main = plain-returns image input address 0x10010 (value_code value) call.m call.at code (omega arith) loads.computes loads.stack loads.link
    call.back refl (omega arith) in
    let behind : HasCode image 0x10010 after_call = has-back image 0x10000 (before_call address ++ call_low 1 address ∷ []) after_call begin in
    let result : register a0 main.next ≡ low_bits 64 value =
    ap (λ registers. slice_index registers a0) main.registers ∙ loads.result input call.m call.at.file in
    let steps : 4 + own + 1 ≡ length (value_code value) + 6 = omega arith in
    subst (λ n. ExitsAfter image input n (low_bits 64 value % 2 ^ 32)) steps
    (subst (λ bits. ExitsAfter image input (4 + own + 1) (bits % 2 ^ 32)) result
    (behind_call image input (4 + own) main.next (run-then input 4 own (start image) (fresh call.m) (fresh main.next) call.ran main.ran) main.at behind))
