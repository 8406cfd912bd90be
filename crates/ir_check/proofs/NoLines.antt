-- What is true where there are no lines.
use Rattle.std.proofs.Common.{◌≡◌, ◌++◌, ◌∷◌, [], ℕ, List, None, Bool, true, false, map, refl}
use Rattle.std.specs.Prelude.{min}
use Rattle.std.specs.List.{reduce}
use Rattle.ir_syntax.specs.Lines.{line_if}

pub none_joined : (prefix back : List ℕ) → prefix ++ back ≡ [] → (prefix ≡ []) × (back ≡ [])
none_joined [] back none = (refl, none)
none_joined (line ∷ prefix) back none = absurd (cc)

pub none_mapped : {A : Type 0} (line_of : A → ℕ) (xs : List A) → map line_of xs ≡ [] → xs ≡ []
none_mapped line_of [] none = refl
none_mapped line_of (x ∷ xs) none = absurd (cc)

pub none_least : (lines : List ℕ) → reduce min lines ≡ None → lines ≡ []
none_least [] none = refl
none_least (line ∷ lines) none = absurd (cc)

pub no_fault : (fault : Bool) (line : ℕ) → line_if fault line ≡ [] → fault ≡ false
no_fault true line none = absurd (cc)
no_fault false line none = refl
