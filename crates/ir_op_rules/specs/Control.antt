-- Types of phis and terminators (LangRef, "'phi' Instruction" and "Terminator Instructions").
use Rattle.std.specs.Prelude.{Bool, true, ◌&&◌, Option, is_none, List}
use Rattle.std.specs.List.{list_all}
use Rattle.ir_ident.specs.declared.name.Name.{Name}
use Rattle.ir_op_rules.specs.Values.{are_same, condition_fits, int_fits, is_value_type}
use Rattle.ir_scope.specs.Operands.{value_fits}
use Rattle.ir_scope.specs.Scalars.{maybe_scalar, scalar_of}
use Rattle.ir_scope.specs.declared.scalar.Scalar.{Scalar}
use Rattle.ir_syntax.specs.Types.{TextTree}
use Rattle.ir_syntax.specs.declared.operand.Operand.{Operand}
use Rattle.ir_syntax.specs.declared.phi.Phi.{Phi}
use Rattle.ir_syntax.specs.declared.term.Case.{Case}
use Rattle.ir_syntax.specs.declared.term.Term.{Term}
use Rattle.ir_syntax.specs.declared.term.Term.TheVariants.{ReturnVoid, Ret, Br, CondBr, Switch, Unreachable}

-- each value of a phi is of its type
abbrev pub phi_fits : (Name → Option Scalar) → Phi → Bool
phi_fits locals p = is_value_type p.ty && list_all (λ e. value_fits locals p.ty e.value) p.entries

-- what is returned is of the function's result type
abbrev pub ret_fits : (Name → Option Scalar) → Option TextTree → TextTree → Operand → Bool
ret_fits locals result ty value = are_same (maybe_scalar result) (scalar_of ty) && value_fits locals ty value

-- an integer, and cases of its type
abbrev pub switch_fits : (Name → Option Scalar) → TextTree → Operand → List Case → Bool
switch_fits locals ty value cases = int_fits locals ty value && list_all (λ c. are_same (scalar_of ty) (scalar_of c.ty)) cases

-- a terminator in a function of a result type, which is none for `void`
abbrev pub term_fits : (Name → Option Scalar) → Option TextTree → Term → Bool
term_fits locals result (ReturnVoid line) = is_none result
term_fits locals result (Ret line ty value) = ret_fits locals result ty value
term_fits locals result (Br line target) = true
term_fits locals result (CondBr line ty condition then_target else_target) = condition_fits locals ty condition
term_fits locals result (Switch line ty value default cases) = switch_fits locals ty value cases
term_fits locals result (Unreachable line) = true
