-- The rules that a call keeps (LangRef, "'call' Instruction" and "Intrinsic Functions").
use Rattle.std.specs.Prelude.{Bool, true, false, ◌&&◌, not, Option, None, Some, is_some, List, slice_get}
use Rattle.std.specs.Option.{option_and_then}
use Rattle.ir_aliases.specs.Ends.{called_function}
use Rattle.ir_call_rules.specs.Calls.{are_aligned, callee_fits, values_fit, written_fit}
use Rattle.ir_call_rules.specs.Immediates.{immediates_fit}
use Rattle.ir_call_rules.specs.Intrinsics.{intrinsic_of}
use Rattle.ir_call_rules.specs.Signatures.{has_signature}
use Rattle.ir_call_rules.specs.declared.intrinsic.Intrinsic.{Intrinsic}
use Rattle.ir_ident.specs.Names.{name_bytes}
use Rattle.ir_ident.specs.declared.name.Name.{Name}
use Rattle.ir_scope.specs.declared.scalar.Scalar.{Scalar}
use Rattle.ir_syntax.specs.Types.{TextTree}
use Rattle.ir_syntax.specs.declared.function.Function.{Function}
use Rattle.ir_syntax.specs.declared.instr.Arg.{Arg}
use Rattle.ir_syntax.specs.declared.instr.Instr.{Instr}
use Rattle.ir_syntax.specs.declared.instr.Op.{Op}
use Rattle.ir_syntax.specs.declared.instr.Op.TheVariants.{Call}
use Rattle.ir_syntax.specs.declared.module.Module.{Module}

-- the function that a called name stands for
abbrev pub callee_of : Module → Name → Option Function
callee_of m name = option_and_then (slice_get m.functions) (called_function m name)

-- the function, the written types of parameters, the arguments and their alignments
abbrev pub call_fits : (Name → Option Scalar) → Option TextTree → Option (List TextTree) → List Arg → Option Function → Bool
call_fits locals result params args f =
    callee_fits result args f && (written_fit params args && (values_fit locals args && are_aligned args))

-- the call of an intrinsic has its type, and constants that it takes
abbrev pub intrinsic_fits : Option TextTree → List Arg → Option Intrinsic → Bool
intrinsic_fits result args None = true
intrinsic_fits result args (Some intrinsic) = has_signature result args intrinsic && immediates_fit args intrinsic

-- where `locals` has the types of local names, and `function_of` the functions that called names stand for
abbrev pub op_fits : (Name → Option Scalar) → (Name → Option Function) → Op → Bool
op_fits locals function_of (Call result params callee args) =
    call_fits locals result params args (function_of callee.name) && intrinsic_fits result args (intrinsic_of (name_bytes callee.name))
op_fits locals function_of other = true

abbrev pub is_void_call : Op → Bool
is_void_call (Call None params callee args) = true
is_void_call other = false

-- a call of `void` has no result
abbrev pub result_fits : Instr → Bool
result_fits i = not (is_void_call i.op && is_some i.result)

abbrev pub instr_fits : (Name → Option Scalar) → (Name → Option Function) → Instr → Bool
instr_fits locals function_of i = result_fits i && op_fits locals function_of i.op
