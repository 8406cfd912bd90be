-- Lines of faults.
use Rattle.std.specs.Prelude.{ℕ, Bool, List, [], ◌∷◌, if◌then◌else◌}

-- a line where there is a fault, none else
abbrev pub line_if : Bool → ℕ → List ℕ
line_if fault line = if fault then line ∷ [] else []
