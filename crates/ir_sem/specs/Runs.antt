-- Runs of a loaded module on an input: what choices lead to, step by step.
use Rattle.std.specs.Prelude.{◌≡◌, ℕ, ◌+◌, true, Option, None, Some, option_map, List, [], ◌∷◌, ◌++◌, find, if◌then◌else◌}
use Rattle.std.specs.Option.{option_and_then}
use Rattle.ir_sem.specs.Actions.{Choice}
use Rattle.ir_sem.specs.Addresses.{Loaded}
use Rattle.ir_sem.specs.Configs.{Call, Config, opened}
use Rattle.ir_sem.specs.Effects.{Outcome, outcome}
use Rattle.ir_sem.specs.Effects as outcome
use Rattle.ir_sem.specs.Globals.{global_blocks}
use Rattle.ir_sem.specs.Mains.{is_main}
use Rattle.ir_sem.specs.declared.value.Value.{Value}
use Rattle.ir_sem.specs.declared.value.Value.TheVariants.{Number}
use Rattle.ir_syntax.specs.declared.function.Param.{Param}

-- where a run stands, or how it ended
pub data State : Type 0 where
  going : Config → State
  ended : ℕ → State
  trapped : State
  undefined : State

-- a run: its state, its output, and the number of segments of which a step was done
pub record Run : Type 0 where
  pub state : State
  pub output : List ℕ
  pub begun : ℕ

abbrev pub counted : Config → ℕ → ℕ
counted c begun = if c.opens then begun + 1 else begun

abbrev pub moved : Run → Config → Outcome → Option Run
moved r c (outcome.went next) = Some (record { state = going next; output = r.output; begun = counted c r.begun })
moved r c (outcome.shown byte next) = Some (record { state = going next; output = r.output ++ byte ∷ []; begun = counted c r.begun })
moved r c (outcome.ended code) = Some (record { state = ended code; output = r.output; begun = counted c r.begun })
moved r c outcome.trapped = Some (record { state = trapped; output = r.output; begun = counted c r.begun })
moved r c outcome.undefined = Some (record { state = undefined; output = r.output; begun = counted c r.begun })
moved r c outcome.refused = None

-- a run with one step more; one that has ended has none
abbrev pub further : Loaded → Choice → Run → Option Run
further l choice r = by r.state
  where
    by : State → Option Run
    by (going c) = moved r c (outcome l c choice)
    by other = None

-- `main` is called, with 0 and null where it has parameters
abbrev pub zeros_for : List Param → List Value
zeros_for [] = []
zeros_for (param ∷ params) = Number 0 ∷ zeros_for params

abbrev pub opening_of : Loaded → List ℕ → Call → Config
opening_of l input call = record { call = call; waiting = []; blocks = global_blocks l; input = input; opens = true }

abbrev pub main_call : Loaded → Option Call
main_call l = option_and_then (λ f. opened (zeros_for f.params) f) (find is_main l.text.functions)

abbrev pub opening : Loaded → List ℕ → Option Config
opening l input = option_map (opening_of l input) (main_call l)

abbrev pub first_run : Config → Run
first_run c = record { state = going c; output = []; begun = 0 }

-- the run that these choices lead to, the last one first
unfoldable pub run_by : Loaded → List ℕ → List Choice → Option Run
run_by l input [] = option_map first_run (opening l input)
run_by l input (choice ∷ before) = option_and_then (further l choice) (run_by l input before)

-- some choices lead to it
abbrev pub IsRun : Loaded → List ℕ → Run → Type 0
IsRun l input r = (choices : List Choice) × (run_by l input choices ≡ Some r)
