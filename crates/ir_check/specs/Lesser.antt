-- The lesser of two numbers.
use Rattle.std.specs.Prelude.{ℕ, min, Option, None, Some}

-- that of two, or the only one, or none
abbrev pub lesser : Option ℕ → Option ℕ → Option ℕ
lesser (Some a) (Some b) = Some (min a b)
lesser (Some a) None = Some a
lesser None b = b
