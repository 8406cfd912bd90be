-- The values that a call gives to its function's names.
use Rattle.std.specs.Prelude.{if◌then◌else◌, List, ◌∷◌, Option, None, Some}
use Rattle.ir_ident.specs.Names.{same_name}
use Rattle.ir_ident.specs.declared.name.Name.{Name}
use Rattle.ir_sem.specs.declared.value.Value.{Value}
use Rattle.ir_sem.specs.declared.value.Value.TheVariants.{Poison}
use Rattle.ir_syntax.specs.declared.function.Param.{Param}

abbrev pub Locals : Type 0
Locals = Name → Value

-- a name that nothing has defined yet; no checked module can tell
abbrev pub none_defined : Locals
none_defined name = Poison

abbrev pub defined : Name → Value → Locals → Locals
defined name value locals other = if same_name name other then value else locals other

-- an instruction without a result defines nothing
abbrev pub result_defined : Option Name → Value → Locals → Locals
result_defined None value locals = locals
result_defined (Some name) value locals = defined name value locals

-- parameters with these arguments
abbrev pub with_arguments : List Param → List Value → Locals
with_arguments (param ∷ params) (value ∷ values) = defined param.name value (with_arguments params values)
with_arguments params values = none_defined
