-- Numbers in words.
use Rattle.std.specs.Prelude.{ℕ, min}

-- a number, or the greatest of a word if it is above that
abbrev pub capped : ℕ → ℕ
capped n = min n 18446744073709551615
