-- Which tokens are written in quotes.
use Rattle.std.specs.Prelude.{ℕ, Bool, ◌||◌, ◌==◌, List, slice_index}

-- whether the token with these bytes is written in quotes, with at most one byte before them
abbrev pub is_quoted : List ℕ → Bool
is_quoted text = slice_index text 0 == 34 || slice_index text 1 == 34
