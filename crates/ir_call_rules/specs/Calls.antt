-- The types that a call agrees with (LangRef, "'call' Instruction").
use Rattle.std.specs.Prelude.{Bool, true, false, ◌&&◌, Option, None, Some, List, [], ◌∷◌, map}
use Rattle.std.specs.List.{list_all}
use Rattle.ir_ident.specs.declared.name.Name.{Name}
use Rattle.ir_op_rules.specs.Memory.{access_align_limit}
use Rattle.ir_op_rules.specs.Values.{are_same}
use Rattle.ir_scope.specs.Alignments.{is_aligned}
use Rattle.ir_scope.specs.Operands.{value_fits}
use Rattle.ir_scope.specs.Scalars.{maybe_scalar, scalar_of}
use Rattle.ir_scope.specs.declared.scalar.Scalar.{Scalar}
use Rattle.ir_syntax.specs.Types.{TextTree}
use Rattle.ir_syntax.specs.declared.function.Function.{Function}
use Rattle.ir_syntax.specs.declared.instr.Arg.{Arg}

-- both are `void`, or one type of values
abbrev pub same_results : Option TextTree → Option TextTree → Bool
same_results None None = true
same_results (Some a) (Some b) = are_same (scalar_of a) (scalar_of b)
same_results None (Some b) = false
same_results (Some a) None = false

-- as many arguments as types, each of its type; none is of what is no value's type, as `metadata` is not
abbrev pub are_of_types : List (Option Scalar) → List Arg → Bool
are_of_types [] [] = true
are_of_types (ty ∷ types) (a ∷ args) = are_same ty (scalar_of a.ty) && are_of_types types args
are_of_types [] (a ∷ args) = false
are_of_types (ty ∷ types) [] = false

-- the function that is called has the call's type
abbrev pub has_type : Option TextTree → List Arg → Function → Bool
has_type result args f = same_results f.result result && are_of_types (map (λ p. maybe_scalar p.ty) f.params) args

-- and there is one
abbrev pub callee_fits : Option TextTree → List Arg → Option Function → Bool
callee_fits result args None = false
callee_fits result args (Some f) = has_type result args f

-- parameter types that are written are the arguments' types
abbrev pub written_fit : Option (List TextTree) → List Arg → Bool
written_fit None args = true
written_fit (Some types) args = are_of_types (map scalar_of types) args

-- each argument is of its type
abbrev pub values_fit : (Name → Option Scalar) → List Arg → Bool
values_fit locals args = list_all (λ a. value_fits locals a.ty a.value) args

-- alignments that are written are those of accesses
abbrev pub are_aligned : List Arg → Bool
are_aligned args = list_all (λ a. is_aligned access_align_limit a.align) args
