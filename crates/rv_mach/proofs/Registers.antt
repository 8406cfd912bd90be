-- A step keeps the registers whole.
use Rattle.std.proofs.Common.{◌∙◌, ℕ, suc, zero, List, [], ◌∷◌, Result, Ok, Err, refl}
use Rattle.std.proofs.lemmas.List.{length-set}
use Rattle.rv_isa.specs.declared.inst.Inst.{Inst}
use Rattle.rv_mach.specs.declared.place.Place.{Place}
use Rattle.rv_mach.specs.declared.place.Place.TheVariants.{Image, Stack}
use Rattle.rv_mach.specs.declared.size.Size.{Size}
use Rattle.rv_mach.specs.declared.stop.Stop.{Stop}
use Rattle.rv_mach.specs.declared.stop.Stop.TheVariants.{Exited, Trapped, StackOut, Running}
use Rattle.rv_mach.specs.Registers.{IsRegisterFile}
use Rattle.rv_mach.specs.State.{State, Run, registers_with, start}
use Rattle.rv_mach.specs.Memory.{written_to}
use Rattle.rv_mach.specs.Step.{Effect, falls, jumps, puts, stops, act, action, executed, instruction, settled, step_by}
use Rattle.rv_mach.specs.Run.{run_of}
use Rattle.rv_mach.specs.Code.{after_code}
use Rattle.rv_mach.proofs.Keeping.{IsSteady, Leaves, performed_left, after_stores}

IsRegisterFile-with : (r value : ℕ) (registers : List ℕ) → IsRegisterFile registers
    → IsRegisterFile (registers_with r value registers)
IsRegisterFile-with zero value registers file = file
IsRegisterFile-with (suc r) value [] file = file
IsRegisterFile-with (suc r) value (x ∷ xs) file =
    record { count = length-set (x ∷ xs) (suc r) value ∙ file.count; zero = file.zero }

-- the machine that an effect leaves has whole registers
HasFile : State → Type 0
HasFile m = IsRegisterFile m.registers

file_steady : IsSteady HasFile
unfolding HasFile
file_steady = record { registers = λ r value m file. IsRegisterFile-with r value m.registers file; taken = λ m file. file }

written-file : (place : Place) (size : Size) (value : ℕ) (m : State) → HasFile m → HasFile (written_to place size value m)
unfolding HasFile
written-file (Image i) size value m file = file
written-file (Stack i) size value m file = file

act-file : (input : List ℕ) (i : Inst) (m : State) → HasFile m → Leaves HasFile (act input i m)
act-file input i m file =
    performed_left HasFile file_steady (action i m) i.rd input m file
    (after_stores HasFile file_steady (action i m) m (λ place size value. written-file place size value m file))

executed-file : (found : Result Inst Stop) (input : List ℕ) (m : State) → IsRegisterFile m.registers
    → Leaves HasFile (executed found input m)
unfolding HasFile
executed-file (Ok i) input m file = act-file input i m file
executed-file (Err stop) input m file = file

settled-file : (e : Effect) (output : List ℕ) → Leaves HasFile e → IsRegisterFile (settled e output).machine.registers
unfolding HasFile
settled-file (falls m) output file = file
settled-file (jumps address m) output file = file
settled-file (puts byte m) output file = file
settled-file (stops stop m) output file = file

step_by-file : (stop : Stop) (input : List ℕ) (r : Run) → IsRegisterFile r.machine.registers
    → IsRegisterFile (step_by stop input r).machine.registers
unfolding HasFile
step_by-file Running input r file =
    settled-file (executed (instruction r.machine) input r.machine) r.output
    (executed-file (instruction r.machine) input r.machine file)
step_by-file (Exited code) input r file = file
step_by-file (Trapped kind) input r file = file
step_by-file StackOut input r file = file

pub after_code-file : (input : List ℕ) (code : List Inst) (r : Run) → IsRegisterFile r.machine.registers
    → IsRegisterFile (after_code input code r).machine.registers
unfolding HasFile
after_code-file input [] r file = file
after_code-file input (i ∷ code) r file =
    after_code-file input code (settled (act input i r.machine) r.output)
    (settled-file (act input i r.machine) r.output (act-file input i r.machine file))

pub run_of-file : (input : List ℕ) (n : ℕ) (m : State) → IsRegisterFile m.registers
    → IsRegisterFile (run_of input n m).machine.registers
unfolding run_of
run_of-file input zero m file = file
run_of-file input (suc n) m file =
    step_by-file (run_of input n m).machine.stop input (run_of input n m) (run_of-file input n m file)

pub start-file : (image : List ℕ) → IsRegisterFile (start image).registers
start-file image = record { count = refl; zero = refl }
