-- What a reader answers.
use Rattle.std.specs.Prelude.{Option, Some, None}
use denote.Ref.{Bor}

-- the answer has what was looked for, or there is no such thing
abbrev pub Reads : {A : Type 0} → (A → Type 0) → Option A → Type 0
Reads P (Some x) = P x
Reads {A} P None = (x : A) → P x → ⊥

-- the same of two things, the second of them lent
abbrev pub Finds : {A B : Type 0} → (A → B → Type 0) → Option (A × Bor B) → Type 0
Finds P (Some found) = P found.0 found.1.now
Finds {A} {B} P None = (x : A) (y : B) → P x y → ⊥
