-- Which items have no name of their own, and how many these are (LangRef, "Identifiers").
use Rattle.std.specs.Prelude.{ℕ, Bool, true, false, ◌&&◌, List, length, filter}
use Rattle.ir_entities.specs.declared.site.NameKind.{NameKind}
use Rattle.ir_entities.specs.declared.site.NameKind.TheVariants.{NamedType, Global, Value, Block}
use Rattle.ir_entities.specs.Sites.{Site}
use Rattle.ir_ident.specs.declared.name.Name.{Name}
use Rattle.ir_ident.specs.declared.name.Name.TheVariants.{Named, Unnamed, Implicit}

-- whether an item of this name is counted among the unnamed ones
abbrev pub is_number : Name → Bool
is_number (Named bytes) = false
is_number (Unnamed n) = true
is_number Implicit = true

-- names of types have no sequence
abbrev pub is_counted : NameKind → Bool
is_counted NamedType = false
is_counted Global = true
is_counted Value = true
is_counted Block = true

abbrev pub is_unnamed : Site → Bool
is_unnamed s = is_counted s.0 && is_number s.1.name

-- how many of these have no name of their own
abbrev pub unnamed_in : List Site → ℕ
unnamed_in sites = length (filter is_unnamed sites)
