-- What holds of the registers in every run.
use Rattle.std.specs.Prelude.{◌≡◌, ℕ, List, length, slice_index}

-- there are 32 registers, and x0 is zero
pub record IsRegisterFile (registers : List ℕ) : Type 0 where
  pub count : length registers ≡ 32
  pub zero : slice_index registers 0 ≡ 0
