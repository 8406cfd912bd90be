-- Names as trees of numbers, and back.
use Rattle.std.proofs.Common.{◌≡◌, ℕ, Bool, true, false, List, [], ◌∷◌, refl, ap}
use base.Stored.{Gv, gnil, gnum, gcons}
use Rattle.ir_ident.specs.declared.name.Name.{Name}
use Rattle.ir_ident.specs.declared.name.Name.TheVariants.{Named, Unnamed, Implicit}
use Rattle.ir_ident.specs.declared.name.NameUse.{NameUse}

abbrev pub first : Gv → Gv
first gnil = gnil
first (gnum n) = gnil
first (gcons a b) = a

abbrev pub second : Gv → Gv
second gnil = gnil
second (gnum n) = gnil
second (gcons a b) = b

abbrev pub number_back : Gv → ℕ
number_back gnil = 0
number_back (gnum n) = n
number_back (gcons a b) = 0

abbrev pub bool_code : Bool → Gv
bool_code true = gnum 0
bool_code false = gnil

abbrev pub bool_back : Gv → Bool
bool_back gnil = false
bool_back (gnum n) = true
bool_back (gcons a b) = false

abbrev pub bool_back_code : (b : Bool) → bool_back (bool_code b) ≡ b
bool_back_code true = refl
bool_back_code false = refl

abbrev pub bytes_code : List ℕ → Gv
bytes_code [] = gnil
bytes_code (b ∷ bytes) = gcons (gnum b) (bytes_code bytes)

abbrev pub bytes_back : Gv → List ℕ
bytes_back gnil = []
bytes_back (gnum n) = []
bytes_back (gcons a b) = number_back a ∷ bytes_back b

abbrev pub bytes_back_code : (bytes : List ℕ) → bytes_back (bytes_code bytes) ≡ bytes
bytes_back_code [] = refl
bytes_back_code (b ∷ bytes) = ap (λ rest. b ∷ rest) (bytes_back_code bytes)

abbrev pub name_code : Name → Gv
name_code (Named bytes) = gcons gnil (bytes_code bytes)
name_code (Unnamed number) = gnum number
name_code Implicit = gnil

abbrev pub name_back : Gv → Name
name_back gnil = Implicit
name_back (gnum n) = Unnamed n
name_back (gcons a b) = Named (bytes_back b)

abbrev pub name_back_code : (name : Name) → name_back (name_code name) ≡ name
name_back_code (Named bytes) = ap Named (bytes_back_code bytes)
name_back_code (Unnamed number) = refl
name_back_code Implicit = refl

abbrev pub use_code : NameUse → Gv
use_code u = gcons (gnum u.line) (name_code u.name)

abbrev pub use_back : Gv → NameUse
use_back g = record { line = number_back (first g); name = name_back (second g) }

abbrev pub use_back_code : (u : NameUse) → use_back (use_code u) ≡ u
use_back_code u = ap (λ name. record { line = u.line; name = name }) (name_back_code u.name)
