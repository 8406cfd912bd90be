-- What a step is about to do, once its operands have their values, and the choices that it leaves open.
use Rattle.std.specs.Prelude.{ℕ, ◌%◌, ◌^◌, List, Option}
use Rattle.cg_num.specs.declared.end.BinEnd.{BinEnd}
use Rattle.cg_num.specs.declared.end.BinEnd.TheVariants as end
use Rattle.ir_ident.specs.declared.name.Name.{Name}
use Rattle.ir_sem.specs.declared.value.Value.{Value}
use Rattle.ir_sem.specs.declared.value.Value.TheVariants.{Number, Poison}
use Rattle.ir_syntax.specs.declared.function.Function.{Function}

pub data Action : Type 0 where
  -- the result has this value; an instruction without a result has any
  give : Value → Action
  -- the result is any number of so many bits
  choose : ℕ → Action
  -- a new block of a size and an alignment; the result is its address
  reserve : ℕ → ℕ → Action
  -- bytes are written at an address
  write : ℕ → List ℕ → Action
  -- any bytes, so many, are written at an address: those of one value, or each like the others
  write_any : ℕ → ℕ → Action
  fill_any : ℕ → ℕ → Action
  -- the names of phis have these values
  assign : List Name → List Value → Action
  -- a byte of output
  put : ℕ → Action
  -- the next byte of input
  get : Action
  -- a call of a function
  enter : Function → List Value → Action
  -- to the block of a label
  jump : Name → Action
  -- back to the waiting call, with a value or none
  leave : Option Value → Action
  -- the abnormal end
  trap : Action
  -- undefined behaviour
  break : Action

-- what an operation on integers gives; a value has 64 bits at most
abbrev pub given : BinEnd → Action
given (end.Value n) = give (Number (n % 2 ^ 64))
given end.Poison = give Poison
given end.Undefined = break

-- an address and new bytes for a block, bytes for what is stored, or a number for what is frozen
pub data Choice : Type 0 where
  none : Choice
  at : ℕ → List ℕ → Choice
  fresh : List ℕ → Choice
  frozen : ℕ → Choice
