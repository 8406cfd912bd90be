-- Which prepared instruction stands for which instruction: they do the same, whatever values the slots have.
use Rattle.std.specs.Prelude.{◌≡◌, ℕ, Some, List, map, slice_get}
use Rattle.ir_code.specs.Meant.{computed, operation_action, place_argument}
use Rattle.ir_code.specs.declared.code.Code.{Code}
use Rattle.ir_code.specs.declared.code.Code.TheVariants.{Plain, Enter}
use Rattle.ir_code.specs.declared.computation.Computation.{Computation}
use Rattle.ir_code.specs.declared.operation.Operation.{Operation}
use Rattle.ir_code.specs.declared.place.Place.{Place}
use Rattle.ir_ident.specs.declared.name.Name.{Name}
use Rattle.ir_mem.specs.declared.block.Block.{Block}
use Rattle.ir_sem.specs.Actions.{Action, enter}
use Rattle.ir_sem.specs.Addresses.{Loaded}
use Rattle.ir_sem.specs.Instructions.{argument, op_action}
use Rattle.ir_sem.specs.Operands.{operand_value}
use Rattle.ir_sem.specs.declared.argument.Argument.{Argument}
use Rattle.ir_sem.specs.declared.value.Value.{Value}
use Rattle.ir_slots.specs.Slots.{locals_in}
use Rattle.ir_slots.specs.Sources.{input_values}
use Rattle.ir_slots.specs.declared.input.Input.{Input}
use Rattle.ir_syntax.specs.Types.{TextTree}
use Rattle.ir_syntax.specs.declared.function.Function.{Function}
use Rattle.ir_syntax.specs.declared.instr.Arg.{Arg}
use Rattle.ir_syntax.specs.declared.instr.Op.{Op}
use Rattle.ir_syntax.specs.declared.operand.Operand.{Operand}

-- the value of an operand, and an argument, where the slots of names have these values
abbrev pub value_in : Loaded → List Name → List Value → TextTree → Operand → Value
value_in l names values ty operand = operand_value l (locals_in names values) ty operand

abbrev pub arguments_in : Loaded → List Name → List Value → List Arg → List Argument
arguments_in l names values args = map (argument l (locals_in names values)) args

-- a computation gives what is meant
abbrev pub IsComputation : (List Value → Action) → Computation → Type 0
IsComputation meant computation = (values : List Value) → meant values ≡ computed values computation

-- an operation does what is meant
abbrev pub IsOperation : (List Value → List Block → Action) → Operation → Type 0
IsOperation meant operation = (values : List Value) (blocks : List Block) → meant values blocks ≡ operation_action values blocks operation

abbrev pub IsPlace : Loaded → List Name → Arg → Place → Type 0
IsPlace l names arg place = (values : List Value) → argument l (locals_in names values) arg ≡ place_argument values place

-- what is meant is a call of the function at a place, with these arguments
pub record Enters (l : Loaded) (meant : List Value → List Block → Action) (place : ℕ) (arguments : List Input) : Type 0 where
  pub function : Function
  pub there : slice_get l.text.functions place ≡ Some function
  pub entered : (values : List Value) (blocks : List Block) → meant values blocks ≡ enter function (input_values values arguments)

-- prepared code does what is meant
abbrev pub IsCode : Loaded → (List Value → List Block → Action) → Code → Type 0
IsCode l meant (Plain operation) = IsOperation meant operation
IsCode l meant (Enter place arguments) = Enters l meant place arguments

-- code does what an instruction does
abbrev pub Resolves : Loaded → List Name → Op → Code → Type 0
Resolves l names op code = IsCode l (λ values blocks. op_action l (locals_in names values) blocks op) code
