-- What a step does: the action of the next instruction, the choice that it takes, and where the run stands then.
use Rattle.std.specs.Prelude.{◌%◌, ℕ, ◌^◌, ◌-◌, Bool, true, false, ◌&&◌, nat_lt, Option, None, Some, List, [], ◌∷◌, if◌then◌else◌}
use Rattle.std.specs.List.{fold}
use Rattle.ir_ident.specs.declared.name.Name.{Name}
use Rattle.ir_mem.specs.Memory.{stored}
use Rattle.ir_mem.specs.Placing.{can_place, freed, placed}
use Rattle.ir_mem.specs.declared.block.Block.{Block}
use Rattle.ir_sem.specs.Accesses.{fills}
use Rattle.ir_sem.specs.Actions.{Action, give, choose, reserve, write, write_any, fill_any, assign, put, get, enter, jump, leave, trap, break, Choice, none, at, fresh, frozen}
use Rattle.ir_sem.specs.Addresses.{Loaded}
use Rattle.ir_sem.specs.Configs.{Spot, before, within, Call, Config, arrived, behind, block_labelled, finished, label_of, opened}
use Rattle.ir_sem.specs.Instructions.{op_action}
use Rattle.ir_sem.specs.Locals.{Locals, defined}
use Rattle.ir_sem.specs.Mains.{is_main}
use Rattle.ir_sem.specs.Terminators.{phis_action, term_action}
use Rattle.ir_sem.specs.declared.value.Value.{Value}
use Rattle.ir_sem.specs.declared.value.Value.TheVariants.{Number, Poison}
use Rattle.ir_syntax.specs.declared.block.Block as syntax
use Rattle.ir_syntax.specs.declared.function.Function.{Function}

-- the action at a spot
abbrev pub spot_action : Loaded → Locals → List Block → Spot → Action
spot_action l locals blocks (before from block) = phis_action l locals from block.phis
spot_action l locals blocks (within label (instr ∷ instrs) term) = op_action l locals blocks instr.op
spot_action l locals blocks (within label [] term) = term_action l locals term

abbrev pub next_action : Loaded → Config → Action
next_action l c = spot_action l c.call.locals c.blocks c.call.spot

-- what a step comes to: it went on, with a byte of output or without, or that was the end, or the choice is not one that it takes
pub data Outcome : Type 0 where
  went : Config → Outcome
  shown : ℕ → Config → Outcome
  ended : ℕ → Outcome
  trapped : Outcome
  undefined : Outcome
  refused : Outcome

-- the run goes on in a call, and in its segment
abbrev pub goes_on : Config → Call → List Block → Config
goes_on c call blocks = record { call = call; waiting = c.waiting; blocks = blocks; input = c.input; opens = false }

-- the run goes on in a call with a new segment
abbrev pub begins : Config → Call → List Call → List ℕ → Config
begins c call waiting input = record { call = call; waiting = waiting; blocks = c.blocks; input = input; opens = true }

abbrev pub if_takes : Bool → Config → Outcome
if_takes takes c = if takes then went c else refused

-- what a call gives, and the memory that it writes
abbrev pub gave : Config → Value → List Block → Config
gave c value blocks = goes_on c (finished value c.call) blocks

-- a new block at an address, with these bytes, that goes when the call returns
abbrev pub block_of : ℕ → List ℕ → Block
block_of base bytes = record { base = base; bytes = bytes; writable = true }

abbrev pub reserved : Config → ℕ → List ℕ → Config
reserved c base bytes = goes_on c
    (record { function = c.call.function; locals = (finished (Number base) c.call).locals; allocas = base ∷ c.call.allocas; spot = behind c.call.spot })
    (placed (block_of base bytes) c.blocks)

abbrev pub all_defined : List Name → List Value → Locals → Locals
all_defined (name ∷ names) (value ∷ values) locals = defined name value (all_defined names values locals)
all_defined names values locals = locals

abbrev pub assigned : Config → List Name → List Value → Config
assigned c names values = goes_on c
    (record { function = c.call.function; locals = all_defined names values c.call.locals; allocas = c.call.allocas; spot = behind c.call.spot })
    c.blocks

-- the next byte of the input, or -1 behind its end
abbrev pub taken : Config → List ℕ → Config
taken c [] = begins c (finished (Number (2 ^ 32 - 1)) c.call) c.waiting []
taken c (byte ∷ bytes) = begins c (finished (Number byte) c.call) c.waiting bytes

abbrev pub entered : Config → Option Call → Outcome
entered c None = undefined
entered c (Some call) = went (begins c call (c.call ∷ c.waiting) c.input)

abbrev pub jumped : Config → Option syntax.Block → Outcome
jumped c None = undefined
jumped c (Some block) = went (begins c
    (record { function = c.call.function; locals = c.call.locals; allocas = c.call.allocas; spot = arrived (label_of c.call.spot) block })
    c.waiting c.input)

abbrev pub or_poison : Option Value → Value
or_poison None = Poison
or_poison (Some value) = value

-- the first call ends the run, and another goes on behind the call instruction
abbrev pub handed : Config → Value → List Call → Outcome
handed c (Number n) [] = ended (n % 2 ^ 32)
handed c Poison [] = undefined
handed c value (call ∷ calls) = went (record {
  call = finished value call;
  waiting = calls;
  blocks = fold (λ blocks base. freed base blocks) c.blocks c.call.allocas;
  input = c.input;
  opens = true;
})

-- poison is not returned from `main`
abbrev pub left : Config → Function → Value → Outcome
left c f (Number n) = handed c (Number n) c.waiting
left c f Poison = if is_main f then undefined else handed c Poison c.waiting

-- what an action does with a choice
abbrev pub effect : Config → Action → Choice → Outcome
effect c (give value) none = went (gave c value c.blocks)
effect c (choose bits) (frozen n) = if_takes (nat_lt n (2 ^ bits)) (gave c (Number n) c.blocks)
effect c (reserve size align) (at base bytes) =
    if_takes (nat_lt base (2 ^ 64) && (can_place c.blocks base size align && fills size bytes)) (reserved c base bytes)
effect c (write base bytes) none = went (gave c Poison (stored base bytes c.blocks))
effect c (write_any base size) (fresh bytes) = if_takes (fills size bytes) (gave c Poison (stored base bytes c.blocks))
effect c (fill_any base size) (fresh bytes) = if_takes (fills size bytes) (gave c Poison (stored base bytes c.blocks))
effect c (assign names values) none = went (assigned c names values)
effect c (put byte) none = shown byte (begins c (finished Poison c.call) c.waiting c.input)
effect c get none = went (taken c c.input)
effect c (enter f values) none = entered c (opened values f)
effect c (jump label) none = jumped c (block_labelled c.call.function label)
effect c (leave value) none = left c c.call.function (or_poison value)
effect c trap none = trapped
effect c break none = undefined
effect c action choice = refused

-- one step
abbrev pub outcome : Loaded → Config → Choice → Outcome
outcome l c choice = effect c (next_action l c) choice

-- which choice a step takes
pub data Want : Type 0 where
  nothing : Want
  place : ℕ → ℕ → Want
  bytes : ℕ → Want
  number : ℕ → Want

abbrev pub want_of : Action → Want
want_of (choose bits) = number bits
want_of (reserve size align) = place size align
want_of (write_any base size) = bytes size
want_of (fill_any base size) = bytes size
want_of other = nothing
