-- What a linked image may show, by the meaning of the module that it was compiled from.
use Rattle.std.specs.Prelude.{◌≡◌, ◌≢◌, ◌+◌, ◌/◌, ◌≤◌, ◌++◌, ◌∷◌, [], ℕ, List}
use Rattle.std.specs.List.{AllZip}
use Rattle.asm_read.specs.Assembly.{Assembles}
use Rattle.asm_read.specs.declared.object.Object.{Object}
use Rattle.ir_syntax.specs.declared.function.Function.{Function}
use Rattle.ir_syntax.specs.declared.module.Module.{Module}
use Rattle.obj_link.specs.Image.{linked_image}
use Rattle.obj_link.specs.Layout.{image_size}
use Rattle.obj_link.specs.Names as names
use Rattle.obj_link.specs.Runtime.{runtime}
use Rattle.obj_link.specs.declared.image.Image.{Image}
use Rattle.rv_mach.specs.Run.{run_of, machine_run}
use Rattle.rv_mach.specs.State.{start}
use Rattle.rv_mach.specs.declared.stop.Stop.{Stop}
use Rattle.rv_mach.specs.declared.stop.Stop.TheVariants.{Exited, Trapped, StackOut, Running}
use Rattle.rv_mach.specs.declared.stop.TrapKind.{TrapKind}
use Rattle.rv_mach.specs.declared.stop.TrapKind.TheVariants as trap
use Rattle.cg_part.specs.Meaning.{IsMain, loaded_at}
use Rattle.ir_sem.specs.Runs.{IsRun, Run, State, ended, going, trapped, undefined}

abbrev pub IsPrefix : List ℕ → List ℕ → Type 0
IsPrefix prefix bytes = (rest : List ℕ) × (bytes ≡ prefix ++ rest)

-- a trap as the program's abnormal end
abbrev pub IsAbnormalEnd : TrapKind → Type 0
IsAbnormalEnd trap.Illegal = Unit {0}
IsAbnormalEnd trap.Misaligned = ⊥
IsAbnormalEnd trap.Unmapped = ⊥
IsAbnormalEnd trap.Ecall = ⊥
IsAbnormalEnd trap.Break = ⊥

-- A run without an end shows all its output, and has begun a segment for every `count` steps taken, where
-- `count` is the number of instructions in the image.
pub record Progresses (count steps : ℕ) (run : Run) (output : List ℕ) : Type 0 where
  pub output_is : run.output ≡ output
  pub progress : steps / count ≤ run.begun

-- the step at which a machine stopped
pub record StopsAt (image input : List ℕ) (steps : ℕ) : Type 0 where
  pub before : ℕ
  pub counted : steps ≡ before + 1
  pub runs : (run_of input before (start image)).machine.stop ≡ Running
  pub stopped : (run_of input steps (start image)).machine.stop ≢ Running

-- What a machine with this stop and output may show, by the state of the run. Undefined behaviour allows any more
-- output than the run had put. No other pair is allowed.
abbrev pub Shows : Image → List ℕ → ℕ → Stop → List ℕ → State → Run → Type 0
Shows image input n stop output undefined run = IsPrefix run.output output
Shows image input n (Exited code) output (ended value) run = (code ≡ value) × (run.output ≡ output)
Shows image input n (Trapped kind) output trapped run = IsAbnormalEnd kind × (run.output ≡ output)
Shows image input n Running output (going config) run = Progresses image.instructions n run output
Shows image input n StackOut output (going config) run =
    (steps : ℕ) × (steps ≤ n) × StopsAt image.bytes input steps × Progresses image.instructions steps run output
Shows image input n (Exited code) output (going config) run = ⊥
Shows image input n (Exited code) output trapped run = ⊥
Shows image input n (Trapped kind) output (going config) run = ⊥
Shows image input n (Trapped kind) output (ended value) run = ⊥
Shows image input n Running output (ended value) run = ⊥
Shows image input n Running output trapped run = ⊥
Shows image input n StackOut output (ended value) run = ⊥
Shows image input n StackOut output trapped run = ⊥

-- n steps of an image, on an input, show what some run of the module at the image's addresses allows
pub record Allowed (m : Module) (image : Image) (input : List ℕ) (n : ℕ) : Type 0 where
  pub run : Run
  pub is_run : IsRun (loaded_at m image.addresses) input run
  pub shows : Shows image input n (machine_run image.bytes input n).stop (machine_run image.bytes input n).output run.state run

-- None of the refusals of a run holds: the module has a `main` of a type that a run can call, each need of its
-- objects and of the runtime has a definition, and their image is not too large.
pub record IsRunnable (m : Module) (objects : List Object) : Type 0 where
  pub main : Function
  pub is_main : IsMain m main
  pub defined : names.undefined (runtime ∷ objects) ≡ []
  pub small : image_size (runtime ∷ objects) ≤ 67108864

-- The texts assemble, and no global name of theirs and of the runtime is defined twice. If none of the refusals of
-- a run holds, then, whatever the input and the number of steps, their image shows what the module allows.
pub record RunsAllowed (m : Module) (texts : List (List ℕ)) : Type 0 where
  pub objects : List Object
  pub assembled : AllZip Assembles texts objects
  pub differ : names.duplicates (runtime ∷ objects) ≡ []
  pub allowed : IsRunnable m objects → (input : List ℕ) (n : ℕ) → Allowed m (linked_image (runtime ∷ objects)) input n
