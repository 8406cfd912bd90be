-- What breaks a rule of a module: on types, on the flow of control, and on aliases.
use Rattle.std.specs.Prelude.{◌≡◌, ◌⊎◌, ℕ, true, nat_eq, min, Option, Some, List, ◌++◌}
use Rattle.std.specs.List.{list_any, reduce}
use Rattle.std.specs.Option.{option_and_then}
use Rattle.ir_aliases.specs.Ends.{first_bad_alias}
use Rattle.ir_aliases.specs.FunctionValues.{function_value_lines}
use Rattle.ir_call_rules.specs.CallLines.{call_lines}
use Rattle.ir_check.specs.Hosts.{host_lines}
use Rattle.ir_defined.specs.Least.{IsLeast}
use Rattle.ir_defined.specs.Undefined.{IsUndefinedUse}
use Rattle.ir_geps.specs.GepLines.{gep_lines}
use Rattle.ir_given.specs.Given.{alias_symbol}
use Rattle.ir_global_rules.specs.GlobalLines.{global_lines}
use Rattle.ir_op_rules.specs.OpLines.{op_lines}
use Rattle.ir_phis.specs.Wrong.{phi_lines}
use Rattle.ir_sizes.specs.Sized.{unsized_lines}
use Rattle.ir_syntax.specs.declared.module.Module.{Module}

-- the lines of types, variables, aliases, functions, and parts of these that break a rule on types
abbrev pub state_lines : Module → List ℕ
state_lines m = unsized_lines m.types ++ (global_lines m ++ (op_lines m ++ (gep_lines m ++ host_lines m)))

-- the lines of what calls a function that it may not, or has one as a value
abbrev pub use_lines : Module → List ℕ
use_lines m = call_lines m ++ function_value_lines m

-- the lines of all that breaks a rule on types
abbrev pub type_lines : Module → List ℕ
type_lines m = state_lines m ++ use_lines m

-- the least of them
abbrev pub first_type_fault : Module → Option ℕ
first_type_fault m = reduce min (type_lines m)

-- a line of a use that some path reaches without passing its definition, of a terminator that leads to the first block, or of
-- a phi whose entries do not fit the predecessors of its block
abbrev pub IsFlowFault : Module → ℕ → Type 0
IsFlowFault m line = IsUndefinedUse m line ⊎ (list_any (nat_eq line) (phi_lines m) ≡ true)

-- the least of them, if there is one
abbrev pub IsFirstFlowFault : Module → Option ℕ → Type 0
IsFirstFlowFault m line = IsLeast (IsFlowFault m) line

-- the name in the assembly of the first alias that has no end, or one too far from a definition
abbrev pub IsAliasFault : Module → List ℕ → Type 0
IsAliasFault m name = option_and_then (alias_symbol m) (first_bad_alias m) ≡ Some name
