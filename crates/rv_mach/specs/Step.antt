-- What a step does (chapter "RV64I Base Integer Instruction Set", and the calls of the environment).
use Rattle.std.specs.Prelude.{◌+◌, ◌-◌, ◌%◌, ◌^◌, ◌==◌, ℕ, ℤ, Bool, nat_lt, List, [], ◌∷◌, ◌++◌, Option, Some, None, Ok, Err, if◌then◌else◌, slice_get}
use Rattle.std.specs.declared.result.Result.{Result}
use Rattle.rv_isa.specs.declared.inst.Inst.{Inst}
use Rattle.rv_isa.specs.Encoding.{decoded}
use Rattle.rv_isa.specs.Format.{low_bits}
use Rattle.rv_mach.specs.declared.stop.Stop.{Stop}
use Rattle.rv_mach.specs.declared.stop.Stop.TheVariants.{Exited, Trapped, StackOut, Running}
use Rattle.rv_mach.specs.declared.stop.TrapKind.{TrapKind}
use Rattle.rv_mach.specs.declared.stop.TrapKind.TheVariants as trap
use Rattle.rv_mach.specs.declared.action.Action.{Action}
use Rattle.rv_mach.specs.declared.action.Action.TheVariants.{Set, Load, Store, Branch, Jump, Pass, Call, Break}
use Rattle.rv_mach.specs.declared.place.Place.{Place}
use Rattle.rv_mach.specs.declared.size.Size.{Size}
use Rattle.rv_mach.specs.Actions.{action_of}
use Rattle.rv_mach.specs.Layout.{stack_start, fetched}
use Rattle.rv_mach.specs.Memory.{placed, read_from, written_to, extension}
use Rattle.rv_mach.specs.State.{State, Run, wrapped, register, with_register}
use Rattle.rv_mach.specs.Values.{upper}
use Rattle.rv_isa.specs.Registers.{sp, a0, a7}

-- what an instruction does with a machine: it falls through to the next one, jumps, puts a byte and
-- falls through, or stops
pub data Effect : Type 0 where
  falls : State → Effect
  jumps : ℕ → State → Effect
  puts : ℕ → State → Effect
  stops : Stop → State → Effect

-- the sum of a register and an immediate
abbrev pub sum_of : Inst → State → ℕ
sum_of i m = wrapped (register i.rs1 m + low_bits 64 i.imm)

-- what `lui` loads
abbrev pub upper_immediate : ℤ → ℕ
upper_immediate imm = upper (low_bits 64 imm)

-- the address after an instruction
abbrev pub next_pc : State → ℕ
next_pc m = wrapped (m.pc + 4)

-- a0 is the next byte of the input, or -1 at its end
abbrev pub with_input : Option ℕ → State → State
with_input (Some byte) m = with_register a0 byte (record m { taken = m.taken + 1 })
with_input None m = with_register a0 (2 ^ 64 - 1) m

-- the calls of the environment, by their numbers
abbrev pub put : ℕ
put = 1

abbrev pub get : ℕ
get = 2

abbrev pub exit : ℕ
exit = 93

-- a call: it puts the low byte of a0, gets a byte into it, or exits with its low 32 bits
abbrev pub called : ℕ → List ℕ → State → Effect
called number input m =
    if number == put then puts (register a0 m % 0x100) m
    else if number == get then falls (with_input (slice_get input m.taken) m)
    else if number == exit then stops (Exited (register a0 m % 2 ^ 32)) m
    else stops (Trapped trap.Ecall) m

-- a load from a place, or a trap
abbrev pub load_from : Result Place TrapKind → Size → Bool → ℕ → State → Effect
load_from (Ok place) size signed rd m = falls (with_register rd (extension size signed (read_from place size m)) m)
load_from (Err kind) size signed rd m = stops (Trapped kind) m

-- a store at a place, or a trap
abbrev pub store_at : Result Place TrapKind → Size → ℕ → State → Effect
store_at (Ok place) size value m = falls (written_to place size value m)
store_at (Err kind) size value m = stops (Trapped kind) m

-- what an action does, on this input; rd is the destination
abbrev pub performed : Action → ℕ → List ℕ → State → Effect
performed (Set value) rd input m = falls (with_register rd value m)
performed (Load size signed address) rd input m = load_from (placed size address m) size signed rd m
performed (Store size value address) rd input m = store_at (placed size address m) size value m
performed (Branch taken target) rd input m = if taken then jumps target m else falls m
performed (Jump target) rd input m = jumps target (with_register rd (next_pc m) m)
performed Pass rd input m = falls m
performed Call rd input m = called (register a7 m) input m
performed Break rd input m = stops (Trapped trap.Break) m

-- the action of an instruction in a machine
abbrev pub action : Inst → State → Action
action i m = action_of i.op (register i.rs1 m) (register i.rs2 m) (low_bits 64 i.imm) m.pc

-- what an instruction does, on this input
abbrev pub act : List ℕ → Inst → State → Effect
act input i m = performed (action i m) i.rd input m

abbrev pub instruction_of_word : Option Inst → Result Inst Stop
instruction_of_word (Some i) = Ok i
instruction_of_word None = Err (Trapped trap.Illegal)

abbrev pub instruction_fetched : Result ℕ TrapKind → Result Inst Stop
instruction_fetched (Ok word) = instruction_of_word (decoded word)
instruction_fetched (Err kind) = Err (Trapped kind)

-- the instruction that comes next, or why the machine stops before one
abbrev pub instruction : State → Result Inst Stop
instruction m =
    if nat_lt (register sp m) stack_start then Err StackOut
    else instruction_fetched (fetched m.image m.pc)

abbrev pub executed : Result Inst Stop → List ℕ → State → Effect
executed (Ok i) input m = act input i m
executed (Err stop) input m = stops stop m

-- the run after an effect
abbrev pub settled : Effect → List ℕ → Run
settled (falls m) output = record { machine = record m { pc = next_pc m }; output = output }
settled (jumps address m) output = record { machine = record m { pc = address }; output = output }
settled (puts byte m) output =
    record { machine = record m { pc = next_pc m }; output = output ++ byte ∷ [] }
settled (stops stop m) output = record { machine = record m { stop = stop }; output = output }

-- a machine that stopped stays as it is
abbrev pub step_by : Stop → List ℕ → Run → Run
step_by Running input r = settled (executed (instruction r.machine) input r.machine) r.output
step_by (Exited code) input r = r
step_by (Trapped kind) input r = r
step_by StackOut input r = r

-- one step, on this input
abbrev pub step : List ℕ → Run → Run
step input r = step_by r.machine.stop input r
