-- The machine as it stands between two steps, and a run so far.
use Rattle.std.specs.Prelude.{◌-◌, ◌%◌, ◌^◌, ℕ, suc, zero, List, [], ◌++◌, replicate, slice_index, slice_set}
use Rattle.rv_isa.specs.Registers.{sp}
use Rattle.rv_mach.specs.declared.stop.Stop.{Stop}
use Rattle.rv_mach.specs.declared.stop.Stop.TheVariants.{Running}
use Rattle.rv_mach.specs.Layout.{image_start, stack_start, stack_end}

-- the address of the next instruction, the registers x0 to x31, the bytes of the image and of the stack,
-- how many bytes of the input were taken, and whether the machine stopped
pub record State : Type 0 where
  pub pc : ℕ
  pub registers : List ℕ
  pub image : List ℕ
  pub stack : List ℕ
  pub taken : ℕ
  pub stop : Stop

-- a machine, and the bytes that it put on the way there
pub record Run : Type 0 where
  pub machine : State
  pub output : List ℕ

-- a machine that has put nothing yet
abbrev pub fresh : State → Run
fresh m = record { machine = m; output = [] }

-- a run that had put these bytes before
abbrev pub prefixed : List ℕ → Run → Run
prefixed prefix r = record { machine = r.machine; output = prefix ++ r.output }

-- numbers of 64 bits wrap
abbrev pub wrapped : ℕ → ℕ
wrapped n = n % 2 ^ 64

abbrev pub register : ℕ → State → ℕ
register r m = slice_index m.registers r

-- x0 stays zero
abbrev pub registers_with : ℕ → ℕ → List ℕ → List ℕ
registers_with zero value registers = registers
registers_with (suc r) value registers = slice_set registers (suc r) value

abbrev pub with_register : ℕ → ℕ → State → State
with_register r value m = record m { registers = registers_with r value m.registers }

-- this many bytes that are all 0. It unfolds only where a proof asks for it, as a stack is long.
unfoldable pub zeros : ℕ → List ℕ
zeros n = replicate n 0

-- a machine with this image before its first step
abbrev pub start : List ℕ → State
start image =
    record {
      pc = image_start;
      registers = slice_set (replicate 32 0) sp stack_end;
      image = image;
      stack = zeros (stack_end - stack_start);
      taken = 0;
      stop = Running;
    }
