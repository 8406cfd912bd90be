-- What holds of a machine and is kept by what an instruction does.
use Rattle.std.proofs.Common.{◌≡◌, ap, ℕ, Bool, true, false, List, Option, Some, None, Ok, Err, Result, if◌then◌else◌, refl, ◌==◌, ◌%◌, ◌+◌, ◌-◌, ◌^◌, slice_get}
use Rattle.rv_isa.specs.declared.inst.Inst.{Inst}
use Rattle.rv_isa.specs.Registers.{a0, a7}
use Rattle.rv_mach.specs.declared.action.Action.{Action}
use Rattle.rv_mach.specs.declared.action.Action.TheVariants.{Set, Load, Store, Branch, Jump, Pass, Call, Break}
use Rattle.rv_mach.specs.declared.place.Place.{Place}
use Rattle.rv_mach.specs.declared.place.Place.TheVariants.{Image, Stack}
use Rattle.rv_mach.specs.declared.size.Size.{Size}
use Rattle.rv_mach.specs.declared.stop.Stop.TheVariants.{Exited, Trapped}
use Rattle.rv_mach.specs.declared.stop.TrapKind.{TrapKind}
use Rattle.rv_mach.specs.declared.stop.TrapKind.TheVariants as trap
use Rattle.rv_mach.specs.State.{State, register, with_register}
use Rattle.rv_mach.specs.Memory.{placed, written_to}
use Rattle.rv_mach.specs.Step.{Effect, falls, jumps, puts, stops, act, action, performed, load_from, store_at, called, put, get, exit, with_input, next_pc, settled}
use Rattle.rv_mach.specs.Code.{FallsThrough, StoresNothing}

-- it holds of the machine that an effect leaves
abbrev pub Leaves : (State → Type 0) → Effect → Type 0
Leaves P (falls m) = P m
Leaves P (jumps address m) = P m
Leaves P (puts byte m) = P m
Leaves P (stops stop m) = P m

-- it does not depend on registers, and not on how much of the input was taken
pub record IsSteady (P : State → Type 0) : Type 1 where
  pub registers : (r value : ℕ) (m : State) → P m → P (with_register r value m)
  pub taken : (m : State) → P m → P (record m { taken = m.taken + 1 })

-- it holds after the store that an action is
abbrev pub AfterStore : (State → Type 0) → Action → State → Type 0
AfterStore P (Set value) m = Unit {0}
AfterStore P (Load size signed address) m = Unit {0}
AfterStore P (Store size value address) m = (place : Place) → placed size address m ≡ Ok place → P (written_to place size value m)
AfterStore P (Branch taken target) m = Unit {0}
AfterStore P (Jump target) m = Unit {0}
AfterStore P Pass m = Unit {0}
AfterStore P Call m = Unit {0}
AfterStore P Break m = Unit {0}

module _ (P : State → Type 0) (steady : IsSteady P) where
  either : (b : Bool) (e f : Effect) → Leaves P e → Leaves P f → Leaves P (if b then e else f)
  either true e f here there = here
  either false e f here there = there

  input_left : (found : Option ℕ) (m : State) → P m → P (with_input found m)
  input_left (Some byte) m is = steady.registers a0 byte (record m { taken = m.taken + 1 }) (steady.taken m is)
  input_left None m is = steady.registers a0 (2 ^ 64 - 1) m is

  called_left : (number : ℕ) (input : List ℕ) (m : State) → P m → Leaves P (called number input m)
  called_left number input m is =
      either (number == put) (puts (register a0 m % 0x100) m) _ is
      (either (number == get) (falls (with_input (slice_get input m.taken) m)) _ (input_left (slice_get input m.taken) m is)
      (either (number == exit) (stops (Exited (register a0 m % 2 ^ 32)) m) (stops (Trapped trap.Ecall) m) is is))

  load_left : (found : Result Place TrapKind) (size : Size) (signed : Bool) (rd : ℕ) (m : State) → P m → Leaves P (load_from found size signed rd m)
  load_left (Ok place) size signed rd m is = steady.registers rd _ m is
  load_left (Err kind) size signed rd m is = is

  store_left : (found : Result Place TrapKind) (size : Size) (value : ℕ) (m : State) → P m
      → ((place : Place) → found ≡ Ok place → P (written_to place size value m)) → Leaves P (store_at found size value m)
  store_left (Ok place) size value m is after = after place refl
  store_left (Err kind) size value m is after = is

  pub performed_left : (a : Action) (rd : ℕ) (input : List ℕ) (m : State) → P m → AfterStore P a m → Leaves P (performed a rd input m)
  performed_left (Set value) rd input m is after = steady.registers rd value m is
  performed_left (Load size signed address) rd input m is after = load_left (placed size address m) size signed rd m is
  performed_left (Store size value address) rd input m is after = store_left (placed size address m) size value m is after
  performed_left (Branch taken target) rd input m is after = either taken (jumps target m) (falls m) is is
  performed_left (Jump target) rd input m is after = steady.registers rd (next_pc m) m is
  performed_left Pass rd input m is after = is
  performed_left Call rd input m is after = called_left (register a7 m) input m is
  performed_left Break rd input m is after = is

  -- where each store keeps it
  pub after_stores : (a : Action) (m : State) → ((place : Place) (size : Size) (value : ℕ) → P (written_to place size value m)) → AfterStore P a m
  after_stores (Set value) m each = tt
  after_stores (Load size signed address) m each = tt
  after_stores (Store size value address) m each = λ place is. each place size value
  after_stores (Branch taken target) m each = tt
  after_stores (Jump target) m each = tt
  after_stores Pass m each = tt
  after_stores Call m each = tt
  after_stores Break m each = tt

  pub after_none : (a : Action) (m : State) → StoresNothing a → AfterStore P a m
  after_none (Set value) m none = tt
  after_none (Load size signed address) m none = tt
  after_none (Store size value address) m none = absurd none
  after_none (Branch taken target) m none = tt
  after_none (Jump target) m none = tt
  after_none Pass m none = tt
  after_none Call m none = tt
  after_none Break m none = tt

-- what an instruction leaves as it was, up to where the machine goes on
pub record Keeps (m kept : State) : Type 0 where
  pub pc : kept.pc ≡ m.pc
  pub stop : kept.stop ≡ m.stop

keeps_steady : (m : State) → IsSteady (Keeps m)
keeps_steady m = record {
  registers = λ r value kept is. record { pc = is.pc; stop = is.stop };
  taken = λ kept is. record { pc = is.pc; stop = is.stop };
}

written_keeps : (m : State) (place : Place) (size : Size) (value : ℕ) → Keeps m (written_to place size value m)
written_keeps m (Image i) size value = record { pc = refl; stop = refl }
written_keeps m (Stack i) size value = record { pc = refl; stop = refl }

pub act_kept : (input : List ℕ) (i : Inst) (m : State) → Leaves (Keeps m) (act input i m)
act_kept input i m =
    performed_left (Keeps m) (keeps_steady m) (action i m) i.rd input m (record { pc = refl; stop = refl })
    (after_stores (Keeps m) (keeps_steady m) (action i m) m (written_keeps m))

-- an instruction that stores nothing leaves the image

HasImage : List ℕ → State → Type 0
HasImage image m = m.image ≡ image

image_steady : (image : List ℕ) → IsSteady (HasImage image)
unfolding HasImage
image_steady image = record { registers = λ r value m is. is; taken = λ m is. is }

settled-image : (image : List ℕ) (e : Effect) (output : List ℕ) → Leaves (HasImage image) e → (settled e output).machine.image ≡ image
unfolding HasImage
settled-image image (falls m) output is = is
settled-image image (jumps address m) output is = is
settled-image image (puts byte m) output is = is
settled-image image (stops stop m) output is = is

pub act-image : (input output : List ℕ) (i : Inst) (m : State) → StoresNothing (action i m)
    → (settled (act input i m) output).machine.image ≡ m.image
unfolding HasImage
act-image input output i m none =
    settled-image m.image (act input i m) output
    (performed_left (HasImage m.image) (image_steady m.image) (action i m) i.rd input m refl
    (after_none (HasImage m.image) (image_steady m.image) (action i m) m none))

-- where the machine goes on behind an instruction
pub record GoesOn (m next : State) : Type 0 where
  pub pc : next.pc ≡ next_pc m
  pub stop : next.stop ≡ m.stop

pub fallen : (e : Effect) (m : State) (output : List ℕ) → Leaves (Keeps m) e → FallsThrough e → GoesOn m (settled e output).machine
fallen (falls kept) m output is through = record { pc = ap (λ pc. (pc + 4) % 2 ^ 64) is.pc; stop = is.stop }
fallen (jumps address kept) m output is through = absurd through
fallen (puts byte kept) m output is through = record { pc = ap (λ pc. (pc + 4) % 2 ^ 64) is.pc; stop = is.stop }
fallen (stops stop kept) m output is through = absurd through
