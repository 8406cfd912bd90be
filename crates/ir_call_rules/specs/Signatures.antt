-- The types of intrinsics (LangRef, "Intrinsic Functions").
use Rattle.std.specs.Prelude.{ℕ, Bool, true, false, ◌&&◌, Option, None, Some, List, [], ◌∷◌, map}
use Rattle.ir_call_rules.specs.Calls.{are_of_types}
use Rattle.cg_num.specs.declared.function.IntegerFunction.{IntegerFunction}
use Rattle.cg_num.specs.declared.function.IntegerFunction.TheVariants.{Ctpop, Bswap, Ctlz, Cttz, Abs, Fshl, Fshr, Smax, Smin, Umax, Umin}
use Rattle.ir_call_rules.specs.declared.intrinsic.Intrinsic.{Intrinsic}
use Rattle.ir_call_rules.specs.declared.intrinsic.Intrinsic.TheVariants.{Integer, Trap, Memcpy, Memmove, Memset}
use Rattle.ir_op_rules.specs.Values.{are_same}
use Rattle.ir_scope.specs.Scalars.{scalar_of}
use Rattle.ir_scope.specs.declared.scalar.Scalar.{Scalar}
use Rattle.ir_scope.specs.declared.scalar.Scalar.TheVariants.{Int, Ptr}
use Rattle.ir_syntax.specs.Types.{TextTree}
use Rattle.ir_syntax.specs.declared.instr.Arg.{Arg}

-- a number, and a flag
abbrev pub flagged : ℕ → List Scalar
flagged bits = Int bits ∷ Int 1 ∷ []

abbrev pub two : ℕ → List Scalar
two bits = Int bits ∷ Int bits ∷ []

abbrev pub three : ℕ → List Scalar
three bits = Int bits ∷ Int bits ∷ Int bits ∷ []

-- the parameters of a function of integers of this many bits
abbrev pub integer_params : IntegerFunction → ℕ → List Scalar
integer_params Ctpop bits = Int bits ∷ []
integer_params Bswap bits = Int bits ∷ []
integer_params Ctlz bits = flagged bits
integer_params Cttz bits = flagged bits
integer_params Abs bits = flagged bits
integer_params Fshl bits = three bits
integer_params Fshr bits = three bits
integer_params Smax bits = two bits
integer_params Smin bits = two bits
integer_params Umax bits = two bits
integer_params Umin bits = two bits

-- where to, where from, how many bytes, and whether the accesses are volatile
abbrev pub copy_params : List Scalar
copy_params = Ptr ∷ Ptr ∷ Int 64 ∷ Int 1 ∷ []

-- where to, the byte, how many of it, and whether the accesses are volatile
abbrev pub set_params : List Scalar
set_params = Ptr ∷ Int 8 ∷ Int 64 ∷ Int 1 ∷ []

abbrev pub params_of : Intrinsic → List Scalar
params_of (Integer function bits) = integer_params function bits
params_of Trap = []
params_of Memcpy = copy_params
params_of Memmove = copy_params
params_of Memset = set_params

-- none for `void`
abbrev pub result_of : Intrinsic → Option Scalar
result_of (Integer function bits) = Some (Int bits)
result_of Trap = None
result_of Memcpy = None
result_of Memmove = None
result_of Memset = None

abbrev pub has_result : Option TextTree → Option Scalar → Bool
has_result None None = true
has_result (Some ty) (Some scalar) = are_same (scalar_of ty) (Some scalar)
has_result None (Some scalar) = false
has_result (Some ty) None = false

-- a call has the intrinsic's type
abbrev pub has_signature : Option TextTree → List Arg → Intrinsic → Bool
has_signature result args intrinsic = has_result result (result_of intrinsic) && are_of_types (map Some (params_of intrinsic)) args
