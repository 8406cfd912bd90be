-- Operations on values: on numbers they are those of integers, and poison spreads (LangRef, "Poison Values").
use Rattle.std.specs.Prelude.{ℕ, ◌-◌, ◌%◌, ◌^◌, Bool, true, false, ◌&&◌, ◌||◌, nat_eq, if◌then◌else◌}
use Rattle.cg_num.specs.Comparisons.{holds}
use Rattle.cg_num.specs.Functions.{function_of}
use Rattle.cg_num.specs.Results.{result_of}
use Rattle.cg_num.specs.declared.end.BinEnd.{BinEnd}
use Rattle.cg_num.specs.declared.end.BinEnd.TheVariants as end
use Rattle.cg_num.specs.declared.flags.Flags.{Flags}
use Rattle.cg_num.specs.declared.function.IntegerFunction.{IntegerFunction}
use Rattle.cg_num.specs.declared.op.BinOp.{BinOp}
use Rattle.cg_num.specs.declared.op.BinOp.TheVariants.{Udiv, Sdiv, Urem, Srem}
use Rattle.cg_num.specs.declared.pred.Pred.{Pred}
use Rattle.ir_geps.specs.Indices.{sign_extended}
use Rattle.ir_sem.specs.declared.value.Value.{Value}
use Rattle.ir_sem.specs.declared.value.Value.TheVariants.{Number, Poison}
use Rattle.ir_syntax.specs.declared.instr.CastOp.{CastOp}
use Rattle.ir_syntax.specs.declared.instr.CastOp.TheVariants.{Sext}

abbrev pub divides_signed : BinOp → Bool
divides_signed Sdiv = true
divides_signed Srem = true
divides_signed other = false

abbrev pub divides : BinOp → Bool
divides Udiv = true
divides Urem = true
divides other = divides_signed other

-- a divisor by which not every number can be divided: zero, and -1, since the least number has no negation
abbrev pub is_unsafe : BinOp → ℕ → ℕ → Bool
is_unsafe op bits b = divides op && nat_eq b 0 || divides_signed op && nat_eq b (2 ^ bits - 1)

abbrev pub poison_unless : Bool → BinEnd
poison_unless undefined = if undefined then end.Undefined else end.Poison

-- a divisor that is poison is as bad as zero, and poison divided by -1 as the least number is
abbrev pub binary : BinOp → Flags → ℕ → Value → Value → BinEnd
binary op flags bits (Number a) (Number b) = result_of op flags bits a b
binary op flags bits Poison (Number b) = poison_unless (is_unsafe op bits b)
binary op flags bits a Poison = poison_unless (divides op)

abbrev pub truth : Bool → ℕ
truth holds = if holds then 1 else 0

abbrev pub compared : Pred → ℕ → Value → Value → Value
compared pred bits (Number a) (Number b) = Number (truth (holds pred bits a b))
compared pred bits a b = Poison

-- poison of the value that is not chosen does no harm
abbrev pub selected : Value → Value → Value → Value
selected (Number condition) a b = if nat_eq condition 0 then b else a
selected Poison a b = Poison

-- a number of some bits as one of other bits: its sign is repeated, or it is cut or filled up with zeros
abbrev pub cast_number : CastOp → ℕ → ℕ → ℕ → ℕ
cast_number Sext from to n = sign_extended from n % 2 ^ to
cast_number other from to n = n % 2 ^ to

abbrev pub cast : CastOp → ℕ → ℕ → Value → Value
cast op from to (Number n) = Number (cast_number op from to n)
cast op from to Poison = Poison

-- a function of integers on values
abbrev pub applied : IntegerFunction → ℕ → Value → Value → Value → BinEnd
applied function bits (Number a) (Number b) (Number c) = function_of function bits a b c
applied function bits a b c = end.Poison
