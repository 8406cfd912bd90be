-- Values of a width.
use Rattle.std.specs.Prelude.{ℕ, ◌<◌, ◌≤◌, ◌^◌}
use Rattle.ir_sem.specs.declared.value.Value.{Value}
use Rattle.ir_sem.specs.declared.value.Value.TheVariants.{Number, Poison}

-- a width that values have
abbrev pub IsValueWidth : ℕ → Type 0
IsValueWidth bits = (0 < bits) × (bits ≤ 64)

-- a number of so many bits, or poison
abbrev pub IsWithin : ℕ → Value → Type 0
IsWithin bits (Number n) = n < 2 ^ bits
IsWithin bits Poison = Unit {0}
