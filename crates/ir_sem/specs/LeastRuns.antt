-- The run that `interp` shows, of those that the meaning allows: it takes 0 for each byte and number that is open, and places
-- each block at the least multiple of its alignment behind all earlier ones.
use Rattle.std.specs.Prelude.{◌≡◌, ℕ, zero, suc, ◌+◌, ◌^◌, Bool, true, false, ◌&&◌, ◌||◌, not, nat_le, nat_lt, Option, None, Some, option_map, List, [], ◌∷◌, replicate, if◌then◌else◌}
use Rattle.std.specs.Option.{option_and_then, option_map_or}
use Rattle.ir_sem.specs.Accesses.{align_or}
use Rattle.ir_sem.specs.Actions.{Choice, none, at, fresh, frozen}
use Rattle.ir_sem.specs.Addresses.{Loaded, defined_globals}
use Rattle.ir_sem.specs.Configs.{Config}
use Rattle.ir_sem.specs.Effects.{Want, nothing, place, bytes, number, next_action, want_of}
use Rattle.ir_sem.specs.Globals.{is_placeable, or_empty}
use Rattle.ir_sem.specs.Runs.{Run, State, going, first_run, further, opening}
use Rattle.ir_sizes.specs.Sized.{layout_in}
use Rattle.ir_syntax.specs.declared.global.Global.{Global}
use Rattle.ir_syntax.specs.declared.module.Module.{Module}
use Rattle.ty_core.specs.Size.{rounded}

-- where the first block may begin
abbrev pub least_address : ℕ
least_address = 65536

abbrev pub global_size : Module → Global → ℕ
global_size m g = (or_empty (layout_in m.types g.ty)).size

-- the addresses of variables behind one address, each behind those before it
abbrev pub addresses_behind : Module → ℕ → List Global → List ℕ
addresses_behind m top [] = []
addresses_behind m top (g ∷ globals) =
    rounded top (align_or m.types g.ty g.align) ∷ addresses_behind m (rounded top (align_or m.types g.ty g.align) + global_size m g) globals

-- the address behind all variables
abbrev pub top_behind : Module → ℕ → List Global → ℕ
top_behind m top [] = top
top_behind m top (g ∷ globals) = top_behind m (rounded top (align_or m.types g.ty g.align) + global_size m g) globals

abbrev pub least_loaded : Module → Loaded
least_loaded m = record { text = m; addresses = addresses_behind m least_address (defined_globals m) }

-- a run, and the address behind all blocks that it has placed
pub record LeastRun : Type 0 where
  pub run : Run
  pub top : ℕ

abbrev pub least_choice : ℕ → Want → Choice
least_choice top nothing = none
least_choice top (place size align) = at (rounded top align) (replicate size 0)
least_choice top (bytes size) = fresh (replicate size 0)
least_choice top (number bits) = frozen 0

abbrev pub next_top : ℕ → Want → ℕ
next_top top (place size align) = rounded top align + size
next_top top other = top

-- a block that would wrap is not placed
abbrev pub wraps : ℕ → Want → Bool
wraps top (place size align) = nat_lt (2 ^ 64) (rounded top align + size) || nat_le (2 ^ 64) (rounded top align)
wraps top other = false

abbrev pub config_of : State → Option Config
config_of (going c) = Some c
config_of other = None

-- the variables have no places, or the run has ended, or its next step would begin one segment too many, or needs a block that
-- would wrap
abbrev pub has_stopped : Loaded → ℕ → LeastRun → Bool
has_stopped l segments r = not (is_placeable l) || option_map_or
    (λ c. c.opens && nat_le segments r.run.begun || wraps r.top (want_of (next_action l c))) (config_of r.run.state) true

abbrev pub step_from : Loaded → LeastRun → Config → Option LeastRun
step_from l r c = option_map (λ next. record { run = next; top = next_top r.top (want_of (next_action l c)) })
    (further l (least_choice r.top (want_of (next_action l c))) r.run)

-- one step, unless the run has stopped
abbrev pub least_step : Loaded → ℕ → LeastRun → Option LeastRun
least_step l segments r = if has_stopped l segments r then Some r else option_and_then (step_from l r) (config_of r.run.state)

-- so many steps from the opening
unfoldable pub least_run : Module → List ℕ → ℕ → ℕ → Option LeastRun
least_run m input segments zero =
    option_map (λ c. record { run = first_run c; top = top_behind m least_address (defined_globals m) }) (opening (least_loaded m) input)
least_run m input segments (suc steps) = option_and_then (least_step (least_loaded m) segments) (least_run m input segments steps)

-- the run of so many segments, where it has stopped
abbrev pub IsLeastRun : Module → List ℕ → ℕ → Run → Type 0
IsLeastRun m input segments run =
    (steps : ℕ) × (top : ℕ) × (least_run m input segments steps ≡ Some (record { run = run; top = top }))
    × (has_stopped (least_loaded m) segments (record { run = run; top = top }) ≡ true)
