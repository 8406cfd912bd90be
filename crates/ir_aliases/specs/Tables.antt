-- Where each alias of a module leads, as a table by places.
use Rattle.std.specs.Prelude.{◌≡◌, ℕ, Bool, true, false, Option, None, Some, List, length, map, slice_get}
use Rattle.ir_aliases.specs.Ends.{base_position, end_of, followed, moved}
use Rattle.ir_aliases.specs.declared.position.Position.{Position}
use Rattle.ir_aliases.specs.declared.position.Position.TheVariants.{Ended, At}
use Rattle.ir_syntax.specs.declared.alias.Alias.{Alias}
use Rattle.ir_syntax.specs.declared.module.Module.{Module}

abbrev pub or_ended : Option Position → Position
or_ended None = Ended None
or_ended (Some position) = position

-- where a chain stands that begins at the alias at a place
abbrev pub position_at : List Position → ℕ → Position
position_at table place = or_ended (slice_get table place)

-- as far along a chain as the table leads
abbrev pub further_by : List Position → Position → Position
further_by table (Ended end) = Ended end
further_by table (At place offset) = moved offset (position_at table place)

-- by the first table, and from there by the second one
abbrev pub composed : List Position → List Position → List Position
composed first second = map (further_by second) first

-- twice as many steps as by a table, and one more, by `bases`, if that is odd
abbrev pub doubled : List Position → List Position → Bool → List Position
doubled bases half true = composed (composed half half) bases
doubled bases half false = composed half half

-- one step from each alias
abbrev pub base_positions : Module → List Position
base_positions m = map (λ (a : Alias). base_position m a.base) m.aliases

-- a table that leads so many steps along each chain
abbrev pub Leads : Module → ℕ → List Position → Type 0
Leads m steps table = (position : Position) → further_by table position ≡ followed m steps position

-- a table by which the ends of chains are found
abbrev pub FindsEnds : Module → List Position → Type 0
FindsEnds m table = (position : Position) → end_of (further_by table position) ≡ end_of (followed m (length m.aliases) position)
