-- How facts on counts of faults go on from one call to the next.
use Rattle.std.proofs.Common.{ℕ, ◌-◌, ◌^◌, ◌<◌, ◌≤◌, arith}
use Rattle.cg_io.specs.Faults.{Rose}

-- a count that rose stays risen
pub Rose-later : (a b c : ℕ) → Rose a b → b ≤ c → Rose a c
Rose-later a b c rose later = omega arith

-- a count that rose by now rose since any moment before
pub Rose-earlier : (a b c : ℕ) → a ≤ b → Rose b c → Rose a c
Rose-earlier a b c later rose = omega arith

-- a count below the counter's last value is greater after it rose
pub Rose-greater : (a b : ℕ) → Rose a b → a < 2 ^ 64 - 1 → a < b
Rose-greater a b rose below = omega arith
