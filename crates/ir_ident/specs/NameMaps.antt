-- What a map of names has, and a set of them.
use Rattle.std.specs.Prelude.{ℕ, ◌^◌, Bool, List, Option, None, Some, is_some, nat_eq, nat_lt, if◌then◌else◌}
use Rattle.std.specs.Int.Digits.{digits_of}
use Rattle.std.specs.HashMap.{HashMap}
use Rattle.std.specs.Map.{lookup}
use Rattle.std.specs.Str.{bytes_eq}
use Rattle.ir_ident.specs.declared.name.Name.{Name}
use Rattle.ir_ident.specs.declared.name.Name.TheVariants.{Named, Unnamed, Implicit}
use Rattle.ir_ident.specs.declared.name_key.NameKey.{NameKey}
use Rattle.ir_ident.specs.declared.names.NameMap.{NameMap}
use Rattle.ir_ident.specs.declared.names.NameSet.{NameSet}
use Rattle.ir_ident.specs.declared.number_map.NumberMap.{NumberMap}

-- the first of two that is there
abbrev pub or_else : {A : Type 0} → Option A → Option A → Option A
or_else (Some a) other = Some a
or_else None other = other

-- the value at the key of these bytes
abbrev pub key_value : {V S : Type 0} → HashMap NameKey V S → List ℕ → Option V
key_value m bytes = lookup (λ k. bytes_eq bytes k.bytes.now) m.entries

-- the value at a small number
abbrev pub small_value : {V S : Type 0} → HashMap ℕ V S → ℕ → Option V
small_value m n = lookup (nat_eq n) m.entries

-- the value of a number
unfoldable pub number_value : {V : Type 0} → NumberMap V → ℕ → Option V
number_value m n = if nat_lt n (2 ^ 64) then small_value m.small n else key_value m.large (digits_of 10 n)

-- the value of a name
unfoldable pub value_of : {V : Type 0} → NameMap V → Name → Option V
value_of m (Named bytes) = key_value m.named bytes
value_of m (Unnamed n) = number_value m.unnamed n
value_of m Implicit = None

-- whether a set has a name
abbrev pub has_name : NameSet → Name → Bool
has_name s name = is_some (value_of s.names name)
