-- Code that an image has, and runs through it.
use Rattle.std.specs.Prelude.{◌≡◌, ◌⊎◌, ◌+◌, ◌*◌, ◌%◌, ◌<◌, ◌≤◌, ℕ, suc, zero, List, [], ◌∷◌, Ok}
use Rattle.rv_isa.specs.declared.inst.Inst.{Inst}
use Rattle.rv_isa.specs.Registers.{sp}
use Rattle.rv_mach.specs.declared.action.Action.{Action}
use Rattle.rv_mach.specs.declared.action.Action.TheVariants.{Set, Load, Store, Branch, Jump, Pass, Call, Break}
use Rattle.rv_mach.specs.Memory.{bytes_of}
use Rattle.rv_mach.specs.Layout.{fetched, image_start, stack_start}
use Rattle.rv_mach.specs.State.{State, Run, register}
use Rattle.rv_mach.specs.Step.{Effect, falls, jumps, puts, stops, act, instruction_fetched, settled}
use Rattle.rv_mach.specs.Run.{run_of}

-- an image has these instructions one after the other, the first of them at an address
abbrev pub HasCode : List ℕ → ℕ → List Inst → Type 0
HasCode image address [] = Unit {0}
HasCode image address (i ∷ code) =
    (instruction_fetched (fetched image address) ≡ Ok i) × HasCode image (address + 4) code

-- an effect behind which the next instruction comes
abbrev pub FallsThrough : Effect → Type 0
FallsThrough (falls m) = Unit {0}
FallsThrough (jumps address m) = ⊥
FallsThrough (puts byte m) = Unit {0}
FallsThrough (stops stop m) = ⊥

-- Straight-line code: before each instruction the stack has room, and behind each but the last the next one comes, and
-- the code that is left still stands.
abbrev pub IsStraight : List ℕ → List Inst → State → Type 0
IsStraight input [] m = Unit {0}
IsStraight input (i ∷ []) m = stack_start ≤ register sp m
IsStraight input (i ∷ next ∷ code) m =
    (stack_start ≤ register sp m) × FallsThrough (act input i m)
    × HasCode (settled (act input i m) []).machine.image (m.pc + 4) (next ∷ code)
    × IsStraight input (next ∷ code) (settled (act input i m) []).machine

-- an action that is no store
abbrev pub StoresNothing : Action → Type 0
StoresNothing (Set value) = Unit {0}
StoresNothing (Load size signed address) = Unit {0}
StoresNothing (Store size value address) = ⊥
StoresNothing (Branch taken target) = Unit {0}
StoresNothing (Jump target) = Unit {0}
StoresNothing Pass = Unit {0}
StoresNothing Call = Unit {0}
StoresNothing Break = Unit {0}

-- one that stores nothing into so many bytes from an address on
abbrev pub Spares : ℕ → ℕ → Action → Type 0
Spares address count (Set value) = Unit {0}
Spares address count (Load size signed from) = Unit {0}
Spares address count (Store size value at) = (at + bytes_of size ≤ address) ⊎ (address + count ≤ at)
Spares address count (Branch taken target) = Unit {0}
Spares address count (Jump target) = Unit {0}
Spares address count Pass = Unit {0}
Spares address count Call = Unit {0}
Spares address count Break = Unit {0}

-- a run after straight-line code, which is one effect after the other
abbrev pub after_code : List ℕ → List Inst → Run → Run
after_code input [] r = r
after_code input (i ∷ code) r = after_code input code (settled (act input i r.machine) r.output)

-- the address of one of the first `count` instructions of an image
pub record IsPlace (count address : ℕ) : Type 0 where
  pub aligned : address % 4 ≡ 0
  pub above : image_start ≤ address
  pub below : address < image_start + 4 * count

-- the addresses at which n steps begin, the last of them first
abbrev pub places : List ℕ → ℕ → State → List ℕ
places input zero m = []
places input (suc n) m = (run_of input n m).machine.pc ∷ places input n m
