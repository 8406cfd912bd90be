-- Parts of a line.
use Rattle.std.specs.Prelude.{◌≡◌, ◌≢◌, ℕ, List, [], ◌∷◌, ◌++◌}

-- b is none of the bytes
abbrev pub IsAbsent : ℕ → List ℕ → Type 0
IsAbsent b [] = Unit {0}
IsAbsent b (x ∷ xs) = (x ≢ b) × IsAbsent b xs

-- the bytes are cut at the first b
abbrev pub IsCut : ℕ → List ℕ → List ℕ → List ℕ → Type 0
IsCut b bytes prefix back = (bytes ≡ prefix ++ b ∷ back) × IsAbsent b prefix

-- the bytes are cut at the last b
abbrev pub IsLastCut : ℕ → List ℕ → List ℕ → List ℕ → Type 0
IsLastCut b bytes prefix back = (bytes ≡ prefix ++ b ∷ back) × IsAbsent b back
