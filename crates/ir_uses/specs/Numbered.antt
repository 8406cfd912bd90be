-- Items with their places.
use Rattle.std.specs.Prelude.{ℕ, suc, List, [], ◌∷◌, ◌++◌}

-- what is made of each item and its place, where the first is at this one
abbrev pub flat_numbered : {A B : Type 0} → (ℕ → A → List B) → ℕ → List A → List B
flat_numbered f place [] = []
flat_numbered f place (x ∷ xs) = f place x ++ flat_numbered f (suc place) xs
