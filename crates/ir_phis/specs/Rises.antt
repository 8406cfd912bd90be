-- Lists of numbers that do not fall.
use Rattle.std.specs.Prelude.{◌≤◌, ℕ, List, [], ◌∷◌}
use Rattle.std.specs.Prelude.{⊤}

-- none is below the one before it, and the first is not below a limit
abbrev pub Rises : ℕ → List ℕ → Type 0
Rises limit [] = ⊤
Rises limit (x ∷ xs) = (limit ≤ x) × Rises x xs
