-- What each end of a read to the end means for the source.
use Rattle.std.specs.Prelude.{◌≡◌, ℕ, ◌+◌, ◌<◌, List, length, IfSome, ⊤}
use Rattle.std.specs.declared.option.Option.{Option}
use Rattle.cg_io.specs.declared.errors.ReadEnd.{ReadEnd}
use Rattle.cg_io.specs.declared.errors.ReadEnd.TheVariants.{Fault, TooLong, NoMemory}
use Rattle.cg_io.specs.Told.{TakesExactly, TakesAtMost}

-- `TooLong` comes with exactly one byte more than the limit, and the other ends with none too many
abbrev pub EndsEarly : ReadEnd → ℕ → Option (List ℕ) → Option (List ℕ) → Type 0
EndsEarly Fault limit old new = TakesAtMost limit old new
EndsEarly (TooLong taken) limit old new = (taken ≡ limit + 1) × TakesExactly taken old new
EndsEarly NoMemory limit old new = TakesAtMost limit old new

-- `TooLong` comes only where more is left than the limit
abbrev pub OnlyTooLongAbove : ReadEnd → ℕ → Option (List ℕ) → Type 0
OnlyTooLongAbove Fault limit left = ⊤
OnlyTooLongAbove (TooLong taken) limit left = IfSome left (λ bytes. limit < length bytes)
OnlyTooLongAbove NoMemory limit left = ⊤
