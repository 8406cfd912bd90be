-- The least line of several.
use Rattle.std.specs.Prelude.{ℕ, min, List, [], ◌∷◌, Option, None, Some}

-- the lesser of two lines that may be there
abbrev pub earlier_of : Option ℕ → Option ℕ → Option ℕ
earlier_of None b = b
earlier_of (Some a) None = Some a
earlier_of (Some a) (Some b) = Some (min a b)

-- the least line of a list; none where it is empty
abbrev pub least : List ℕ → Option ℕ
least [] = None
least (line ∷ lines) = earlier_of (Some line) (least lines)
