-- What prepared instructions do, by the values of slots and the live blocks.
use Rattle.std.specs.Prelude.{ℕ, Option, None, Some, List, [], ◌∷◌}
use Rattle.ir_code.specs.declared.application.Application.{Application}
use Rattle.ir_code.specs.declared.computation.Computation.{Computation}
use Rattle.ir_code.specs.declared.computation.Computation.TheVariants.{Binary, Compare, Select, Cast, Element, Apply}
use Rattle.ir_code.specs.declared.copying.Copying.{Copying}
use Rattle.ir_code.specs.declared.operation.Operation.{Operation}
use Rattle.ir_code.specs.declared.operation.Operation.TheVariants.{Compute, Freeze, Load, Store, Reserve, Copy, Fill, Put, Get, Trap, Break}
use Rattle.ir_code.specs.declared.place.Place.{Place}
use Rattle.ir_code.specs.declared.steps.Step.{Step}
use Rattle.ir_code.specs.declared.steps.Step.TheVariants.{Fixed, Strides}
use Rattle.ir_mem.specs.declared.block.Block.{Block}
use Rattle.ir_sem.specs.Actions.{Action, give, reserve, get, trap, break, given}
use Rattle.ir_sem.specs.Elements.{added, scaled}
use Rattle.ir_sem.specs.Instructions.{frozen_action, load_action, store_action}
use Rattle.ir_sem.specs.Intrinsics.{copied, filled, put_action, unless_empty}
use Rattle.ir_sem.specs.Operands.{narrowed}
use Rattle.ir_sem.specs.Operations.{applied, binary, cast, compared, selected}
use Rattle.ir_sem.specs.declared.argument.Argument.{Argument}
use Rattle.ir_sem.specs.declared.value.Value.{Value}
use Rattle.ir_sem.specs.declared.value.Value.TheVariants.{Number}
use Rattle.ir_slots.specs.Sources.{input_value, source_at}
use Rattle.ir_slots.specs.declared.input.Input.{Input}
use Rattle.ty_core.specs.Size.{bytes_of}

-- how far a step goes
abbrev pub step_distance : List Value → Step → Value
step_distance values (Fixed bytes) = Number bytes
step_distance values (Strides stride index) = scaled stride index.width (input_value values index)

-- how far these steps go, and then so far
abbrev pub steps_distance : List Value → List Step → Value → Value
steps_distance values [] behind = behind
steps_distance values (step ∷ steps) behind = added (step_distance values step) (steps_distance values steps behind)

-- an argument that is left out is 0
abbrev pub taken_at : List Value → ℕ → Option Input → Value
taken_at values width None = Number 0
taken_at values width (Some input) = narrowed width (input_value values input)

-- what a function of integers gives of its arguments
abbrev pub application_action : List Value → Application → Action
application_action values a =
    given (applied a.function a.width (narrowed a.width (input_value values a.first)) (taken_at values a.width a.second) (taken_at values a.width a.third))

-- what a computation gives
abbrev pub computed : List Value → Computation → Action
computed values (Binary op flags pair) =
    given (binary op flags pair.width (source_at values pair.width pair.left) (source_at values pair.width pair.right))
computed values (Compare pred pair) =
    give (compared pred pair.width (source_at values pair.width pair.left) (source_at values pair.width pair.right))
computed values (Select condition then_value else_value) =
    give (selected (input_value values condition) (input_value values then_value) (input_value values else_value))
computed values (Cast op value to) = give (cast op value.width to (input_value values value))
computed values (Element base steps) = give (added (input_value values base) (steps_distance values steps (Number 0)))
computed values (Apply application) = application_action values application

-- an address and its alignment, as an argument of a call has them
abbrev pub place_argument : List Value → Place → Argument
place_argument values place = record { value = input_value values place.address; align = place.align }

-- what a copy is about to do
abbrev pub copying_action : List Value → List Block → Copying → Action
copying_action values blocks c =
    unless_empty (input_value values c.size) (copied blocks c.may_overlap (place_argument values c.to) (place_argument values c.from))

-- what an operation is about to do
abbrev pub operation_action : List Value → List Block → Operation → Action
operation_action values blocks (Compute computation) = computed values computation
operation_action values blocks (Freeze value) = frozen_action value.width (input_value values value)
operation_action values blocks (Load width place) = load_action blocks width place.align (input_value values place.address)
operation_action values blocks (Store value place) =
    store_action blocks (bytes_of value.width) place.align (input_value values value) (input_value values place.address)
operation_action values blocks (Reserve size align) = reserve size align
operation_action values blocks (Copy copying) = copying_action values blocks copying
operation_action values blocks (Fill to byte size) =
    unless_empty (input_value values size) (filled blocks (place_argument values to) (input_value values byte))
operation_action values blocks (Put value) = put_action (input_value values value ∷ [])
operation_action values blocks Get = get
operation_action values blocks Trap = trap
operation_action values blocks Break = break
