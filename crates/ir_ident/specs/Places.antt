-- Places in lists, counted from 0.
use Rattle.std.specs.Prelude.{ℕ, suc, Option, None, Some, List, [], ◌∷◌, option_map, if◌then◌else◌}
use Rattle.ir_ident.specs.Names.{same_name}
use Rattle.ir_ident.specs.declared.name.Name.{Name}

-- the place of the first item that has a name
abbrev pub place_by : {A : Type 0} → (A → Name) → List A → Name → Option ℕ
place_by name_of [] name = None
place_by name_of (x ∷ xs) name = if same_name (name_of x) name then Some 0 else option_map (λ place. suc place) (place_by name_of xs name)
