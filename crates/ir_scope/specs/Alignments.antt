-- Alignments that are written (LangRef, "'load' Instruction" and "Global Variables").
use Rattle.std.specs.Prelude.{ℕ, Bool, true, ◌&&◌, nat_le, Option, None, Some}
use Rattle.std.specs.Int.{is_power_of_two}

-- an alignment that is written is a power of two up to a limit
abbrev pub is_aligned : ℕ → Option ℕ → Bool
is_aligned limit None = true
is_aligned limit (Some align) = is_power_of_two align && nat_le align limit
