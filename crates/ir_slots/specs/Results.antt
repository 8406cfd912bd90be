-- What is written into slots.
use Rattle.std.specs.Prelude.{◌≡◌, ◌⊎◌, ℕ, Option, None, Some, List, [], ◌∷◌, length, map, slice_set}
use Rattle.ir_ident.specs.declared.name.Name.{Name}
use Rattle.ir_sem.specs.Effects.{all_defined}
use Rattle.ir_sem.specs.Locals.{result_defined}
use Rattle.ir_sem.specs.declared.value.Value.{Value}
use Rattle.ir_slots.specs.Slots.{locals_in, slot_of}
use Rattle.ir_syntax.specs.declared.phi.Phi.{Phi}

-- a name is among these
abbrev pub IsAmong : List Name → Name → Type 0
IsAmong [] name = ⊥
IsAmong (own ∷ names) name = (own ≡ name) ⊎ IsAmong names name

-- all of these are among those
abbrev pub Includes : List Name → List Name → Type 0
Includes names some = (name : Name) → IsAmong some name → IsAmong names name

-- the values of the slots once a result is written; without a slot it is dropped
abbrev pub with_result : List Value → Option ℕ → Value → List Value
with_result values None value = values
with_result values (Some slot) value = slice_set values slot value

-- several results: of those in one slot the first counts
abbrev pub with_results : List Value → List (Option ℕ) → List Value → List Value
with_results values (slot ∷ slots) (value ∷ rest) = with_result (with_results values slots rest) slot value
with_results values slots rest = values

-- a slot is that of a result, whatever the value is
abbrev pub IsSlot : List Name → Option Name → Option ℕ → Type 0
IsSlot names result slot = (values : List Value) (value : Value) → length values ≡ length names
    → result_defined result value (locals_in names values) ≡ locals_in names (with_result values slot value)

-- the slots of phis, in order
abbrev pub phi_slots : List Name → List Phi → List (Option ℕ)
phi_slots names phis = map (λ (phi : Phi). slot_of names phi.result) phis

-- slots are those of phis, whatever the values are
abbrev pub ArePhiSlots : List Name → List Phi → List (Option ℕ) → Type 0
ArePhiSlots names phis slots = (values new : List Value) → length values ≡ length names
    → all_defined (map (λ (phi : Phi). phi.result) phis) new (locals_in names values) ≡ locals_in names (with_results values slots new)
