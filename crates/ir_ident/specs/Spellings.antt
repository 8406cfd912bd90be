-- Where the bytes of a name stand.
use Rattle.std.specs.Prelude.{ℕ, ◌≤◌, List, take}
use Rattle.ir_ident.specs.declared.name.Spelling.{Spelling}
use Rattle.ir_ident.specs.declared.name.Spelling.TheVariants.{Short, Long}

-- the bytes of a name
abbrev pub spelled : Spelling → List ℕ
spelled (Short len bytes) = take len bytes
spelled (Long bytes) = bytes.value.items

-- a short name is no longer than its room
abbrev pub IsSpelling : Spelling → Type 0
IsSpelling (Short len bytes) = len ≤ 22
IsSpelling (Long bytes) = Unit {0}
