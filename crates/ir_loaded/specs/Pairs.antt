-- A loaded module as a pair, and its constants.
use Rattle.std.specs.Prelude.{ℕ, Option, None, Some, List}
use Rattle.ir_sem.specs.Addresses.{Loaded}
use Rattle.ir_sem.specs.Locals.{none_defined}
use Rattle.ir_sem.specs.Operands.{operand_value}
use Rattle.ir_sem.specs.declared.value.Value.{Value}
use Rattle.ir_syntax.specs.Types.{TextTree}
use Rattle.ir_syntax.specs.declared.module.Module.{Module}
use Rattle.ir_syntax.specs.declared.operand.Operand.{Operand}
use Rattle.ir_syntax.specs.declared.operand.Operand.TheVariants.{Local}

abbrev pub loaded : Module × List ℕ → Loaded
loaded pair = record { text = pair.0; addresses = pair.1 }

-- the value of a constant of a type
abbrev pub constant_of : Loaded → TextTree → Operand → Option Value
constant_of l ty (Local used) = None
constant_of l ty operand = Some (operand_value l none_defined ty operand)
