-- Names, compared and read.
use Rattle.std.specs.Prelude.{ℕ, Bool, false, nat_eq, List, [], bytes_eq}
use Rattle.ir_ident.specs.declared.name.Name.{Name}
use Rattle.ir_ident.specs.declared.name.Name.TheVariants.{Named, Unnamed, Implicit}

-- whether two names are one
abbrev pub same_name : Name → Name → Bool
same_name (Named a) (Named b) = bytes_eq a b
same_name (Unnamed a) (Unnamed b) = nat_eq a b
same_name (Named a) (Unnamed b) = false
same_name (Unnamed a) (Named b) = false
same_name Implicit (Named b) = false
same_name Implicit (Unnamed b) = false
same_name (Named a) Implicit = false
same_name (Unnamed a) Implicit = false
same_name Implicit Implicit = false

-- the bytes of a name; an unnamed item has none of its own
abbrev pub name_bytes : Name → List ℕ
name_bytes (Named bytes) = bytes
name_bytes (Unnamed number) = []
name_bytes Implicit = []
