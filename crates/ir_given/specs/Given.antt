-- The names in the assembly of the items of a module that have none in the text (LangRef, "Identifiers").
use Rattle.std.specs.Prelude.{ℕ, Bool, true, false, not, nat_eq, Option, Some, List, ◌++◌, codes, count_by, decimal, filter, length, map, option_and_then, slice_get, take, if◌then◌else◌}
use Rattle.std.specs.List.{list_any, range_with_len}
use Rattle.ir_ident.specs.Names.{same_name}
use Rattle.ir_ident.specs.declared.name.Name.{Name}
use Rattle.ir_ident.specs.declared.name.Name.TheVariants.{Named, Unnamed, Implicit}
use Rattle.ir_syntax.specs.declared.alias.Alias.{Alias}
use Rattle.ir_syntax.specs.declared.module.Module.{Module}

-- whether an item has no name of its own
abbrev pub is_unnamed : Name → Bool
is_unnamed (Named bytes) = false
is_unnamed (Unnamed number) = true
is_unnamed Implicit = true

-- the names of the functions, of the variables and of these aliases of a module
abbrev pub names_with : Module → List Alias → List Name
names_with m aliases = map (λ f. f.name) m.functions ++ (map (λ g. g.name) m.globals ++ map (λ a. a.name) aliases)

abbrev pub names_of : Module → List Name
names_of m = names_with m m.aliases

-- `__llvmsplit_unnamed`, `__llvmsplit_unnamed.1`, `__llvmsplit_unnamed.2`, and so on
abbrev pub candidate : ℕ → List ℕ
candidate k = if nat_eq k 0 then codes "__llvmsplit_unnamed" else codes "__llvmsplit_unnamed." ++ decimal k

-- whether none of these items is named so
abbrev pub is_free : List Name → List ℕ → Bool
is_free names bytes = not (list_any (same_name (Named bytes)) names)

-- the free ones of so many first candidates
abbrev pub free_candidates : List Name → ℕ → List (List ℕ)
free_candidates names count = filter (is_free names) (map candidate (range_with_len 0 count))

-- The unnamed ones of these items get the first free candidates, in this order. As many candidates as there are items are
-- enough, since each named item takes one of them at most: `given_names` ensures that there is a name for each unnamed one.
abbrev pub given_to : List Name → List (List ℕ)
given_to names = take (count_by is_unnamed names) (free_candidates names (length names))

-- the names that the unnamed items of a module get
abbrev pub given_names : Module → List (List ℕ)
given_names m = given_to (names_of m)

-- how many unnamed items there are before the alias at a place
abbrev pub alias_rank : Module → ℕ → ℕ
alias_rank m place = count_by is_unnamed (names_with m (take place m.aliases))

-- an item's own name, or the one that the unnamed item of this rank gets
abbrev pub symbol_of : Module → ℕ → Name → Option (List ℕ)
symbol_of m rank (Named bytes) = Some bytes
symbol_of m rank (Unnamed number) = slice_get (given_names m) rank
symbol_of m rank Implicit = slice_get (given_names m) rank

-- the name of the alias at a place
abbrev pub alias_symbol : Module → ℕ → Option (List ℕ)
alias_symbol m place = option_and_then (λ a. symbol_of m (alias_rank m place) a.name) (slice_get m.aliases place)
