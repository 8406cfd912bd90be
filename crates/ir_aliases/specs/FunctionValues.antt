-- The lines of what has a function's name as a value, or as the base of a constant getelementptr.
use Rattle.std.specs.Prelude.{ℕ, Bool, false, List}
use Rattle.ir_aliases.specs.Ends.{names_function}
use Rattle.ir_geps.specs.OperandLines.{operand_lines}
use Rattle.ir_syntax.specs.declared.module.Module.{Module}
use Rattle.ir_syntax.specs.declared.operand.Operand.{Operand}
use Rattle.ir_syntax.specs.declared.operand.Operand.TheVariants as operand

-- whether an operand is the name of a function, or of an alias of one, or an address from there
abbrev pub is_function_value : Module → Operand → Bool
is_function_value m (operand.Global used) = names_function m used.name
is_function_value m (operand.Gep gep) = names_function m gep.base.name
is_function_value m other = false

-- the lines of globals, instructions, phis and terminators with such an operand; the function that is called is none
abbrev pub function_value_lines : Module → List ℕ
function_value_lines m = operand_lines (λ op. false) (is_function_value m) m
