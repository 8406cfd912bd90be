-- What names stand for, by the places of their definitions.
use Rattle.std.proofs.Common.{◌≡◌, ◌∙◌, ℕ, suc, Bool, true, false, Option, None, Some, option_map, List, [], ◌∷◌, slice_get, if◌then◌else◌, refl, sym, ap}
use Rattle.std.specs.Option.{option_and_then}
use Rattle.ir_sizes.specs.Named.{first_def}
use Rattle.ir_ident.specs.Names.{same_name}
use Rattle.ir_ident.specs.declared.name.Name.{Name}
use Rattle.ir_sizes.specs.Measured.{place_of}
use Rattle.ir_sizes.specs.Sized.{body_of}
use Rattle.ir_syntax.specs.declared.type_def.TypeDef.{TypeDef}

behind : (d : TypeDef) (defs : List TypeDef) (place : Option ℕ) →
    option_and_then (slice_get (d ∷ defs)) (option_map (λ p. suc p) place) ≡ option_and_then (slice_get defs) place
behind d defs None = refl
behind d defs (Some place) = refl

-- a name stands for the body of its first definition
pub body_first : (defs : List TypeDef) (name : Name) → body_of defs name ≡ option_map (λ d. d.body) (first_def defs name)
body_first [] name = refl
body_first (d ∷ defs) name = by (same_name d.name name) (body_first defs name ∙ ap (option_map (λ d. d.body)) (sym (behind d defs (place_of defs name))))
  where
    by : (same : Bool) →
        body_of defs name ≡ option_map (λ d. d.body) (option_and_then (slice_get (d ∷ defs)) (option_map (λ p. suc p) (place_of defs name))) →
        (if same then Some d.body else body_of defs name)
        ≡ option_map (λ d. d.body) (option_and_then (slice_get (d ∷ defs)) (if same then Some 0 else option_map (λ p. suc p) (place_of defs name)))
    by true rest = refl
    by false rest = rest
