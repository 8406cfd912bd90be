-- The types of the values that a function names (LangRef, "Identifiers").
use Rattle.std.specs.Prelude.{◌≡◌, Option, Some, None, List, [], ◌∷◌, ◌++◌, if◌then◌else◌}
use Rattle.std.specs.List.{flat_map}
use Rattle.ir_ident.specs.NameMaps.{or_else, value_of}
use Rattle.ir_ident.specs.Names.{same_name}
use Rattle.ir_ident.specs.declared.name.Name.{Name}
use Rattle.ir_ident.specs.declared.names.NameMap.{NameMap}
use Rattle.ir_syntax.specs.declared.block.Block.{Block}
use Rattle.ir_syntax.specs.declared.function.Function.{Function}
use Rattle.ir_syntax.specs.declared.function.Param.{Param}
use Rattle.ir_syntax.specs.declared.instr.Instr.{Instr}
use Rattle.ir_syntax.specs.declared.phi.Phi.{Phi}
use Rattle.ir_scope.specs.Scalars.{maybe_scalar, op_scalar, scalar_of}
use Rattle.ir_scope.specs.declared.scalar.Scalar.{Scalar}

-- a value by its name and its type
pub record Value : Type 0 where
  pub name : Name
  pub scalar : Scalar

-- nothing where the type is not one of a value
abbrev pub typed : Name → Option Scalar → List Value
typed name None = []
typed name (Some scalar) = record { name = name; scalar = scalar } ∷ []

abbrev pub param_values : Param → List Value
param_values p = typed p.name (maybe_scalar p.ty)

abbrev pub phi_values : Phi → List Value
phi_values p = typed p.result (scalar_of p.ty)

abbrev pub result_values : Option Name → Option Scalar → List Value
result_values None scalar = []
result_values (Some name) scalar = typed name scalar

abbrev pub instr_values : Instr → List Value
instr_values i = result_values i.result (op_scalar i.op)

abbrev pub block_values : Block → List Value
block_values b = flat_map phi_values b.phis ++ flat_map instr_values b.instrs

abbrev pub body_values : Option (List Block) → List Value
body_values None = []
body_values (Some blocks) = flat_map block_values blocks

-- the values of a function in the order of the text
abbrev pub function_values : Function → List Value
function_values f = flat_map param_values f.params ++ body_values f.blocks

-- the type of the first value of a name
abbrev pub scalar_among : List Value → Name → Option Scalar
scalar_among [] name = None
scalar_among (value ∷ values) name = if same_name name value.name then Some value.scalar else scalar_among values name

-- the type of a local name of a function
abbrev pub local_scalar : Function → Name → Option Scalar
local_scalar f name = scalar_among (function_values f) name

-- a map with these values behind those that it had
abbrev pub Adds : NameMap Scalar → NameMap Scalar → List Value → Type 0
Adds old new values = (name : Name) → value_of new name ≡ or_else (value_of old name) (scalar_among values name)
