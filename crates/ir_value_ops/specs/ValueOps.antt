-- Operations on values (LangRef, "Binary Operations", "Bitwise Binary Operations", "Conversion
-- Operations" and "Other Operations").
use Rattle.std.specs.Prelude.{List, [], ◌∷◌, ◌++◌, Bool, false, true, ◌||◌, not}
use Rattle.std.specs.List.{list_any}
use Rattle.cg_num.specs.declared.op.BinOp.{BinOp}
use Rattle.cg_num.specs.declared.op.BinOp.TheVariants as binary
use Rattle.cg_num.specs.declared.pred.Pred.{Pred}
use Rattle.cg_num.specs.declared.pred.Pred.TheVariants as pred
use Rattle.ir_syntax.specs.Types.{TextTree}
use Rattle.ir_syntax.specs.declared.instr.CastOp.{CastOp}
use Rattle.ir_syntax.specs.declared.instr.CastOp.TheVariants as cast
use Rattle.ir_syntax.specs.declared.instr.Op.{Op}
use Rattle.ir_syntax.specs.declared.instr.Op.TheVariants as operation
use Rattle.ir_syntax.specs.declared.operand.Operand.{Operand}
use Rattle.ir_syntax.specs.declared.operand.TypedOperand.{TypedOperand}
use Rattle.ir_words.specs.declared.class.Class.{Class}
use Rattle.ir_words.specs.declared.class.Class.TheVariants.{Add, And, Ashr, Bitcast, Comma, Eq, Exact, Freeze, Icmp, Inttoptr, Lshr, Mul, Ne, Nsw, Nuw, Or, Ptrtoint, Sdiv, Select, Sext, Sge, Sgt, Shl, Sle, Slt, Srem, Sub, To, Trunc, Udiv, Uge, Ugt, Ule, Ult, Urem, Xor, Zext}
use Rattle.ir_rules.specs.Leaves.{flag, means}
use Rattle.ir_rules.specs.Rules.{Rule, ◌▷◌, each, either, made, seq, within}
use Rattle.ir_types.specs.Types.{type_firsts, types}
use Rattle.ir_values.specs.Values.{operands, typed_operands}

-- the type of two operands, and these
abbrev pub Pair : Type 0
Pair = TextTree × (Operand × Operand)

-- type value , value
unfoldable pub pair_forms : Rule Pair
pair_forms = seq (types 64) (seq operands (Comma ▷ operands))

abbrev pub pairs : Rule Pair
pairs = within type_firsts [] false pair_forms

-- "add" | "sub" | "mul" | "shl"
abbrev pub wrapping_ops : Rule BinOp
wrapping_ops = either (means Add binary.Add) (either (means Sub binary.Sub) (either (means Mul binary.Mul) (means Shl binary.Shl)))

-- whether `nuw` and `nsw` stand among the words that say no wrap, unsigned for true
abbrev pub Wraps : Type 0
Wraps = Bool × Bool

-- "nuw" | "nsw"
abbrev pub wrap : Rule Bool
wrap = either (means Nuw true) (means Nsw false)

abbrev pub wraps_of : List Bool → Wraps
wraps_of words = (list_any (λ word. word) words, list_any not words)

-- what is known of both after one more word
abbrev pub with_wrap : Wraps → Bool → Wraps
with_wrap w unsigned = (w.0 || unsigned, w.1 || not unsigned)

-- ("nuw"|"nsw")*
unfoldable pub wrap_forms : Rule Wraps
wrap_forms = made wraps_of (each wrap)

abbrev pub wraps : Rule Wraps
wraps = within (Nuw ∷ Nsw ∷ []) (Nuw ∷ Nsw ∷ []) true wrap_forms

abbrev pub wrapping_of : BinOp × (Wraps × Pair) → Op
wrapping_of z = operation.Wrapping z.0 z.1.0.0 z.1.0.1 z.1.1.0 z.1.1.1.0 z.1.1.1.1

-- ("add"|"sub"|"mul"|"shl") ("nuw"|"nsw")* type value , value
unfoldable pub wrapping_forms : Rule Op
wrapping_forms = made wrapping_of (seq wrapping_ops (seq wraps pairs))

abbrev pub wrapping_firsts : List Class
wrapping_firsts = Add ∷ Sub ∷ Mul ∷ Shl ∷ []

abbrev pub wrapping : Rule Op
wrapping = within wrapping_firsts [] false wrapping_forms

-- "udiv" | "sdiv" | "lshr" | "ashr"
abbrev pub exact_ops : Rule BinOp
exact_ops = either (means Udiv binary.Udiv) (either (means Sdiv binary.Sdiv) (either (means Lshr binary.Lshr) (means Ashr binary.Ashr)))

abbrev pub exact_of : BinOp × (Bool × Pair) → Op
exact_of z = operation.Exact z.0 z.1.0 z.1.1.0 z.1.1.1.0 z.1.1.1.1

-- ("udiv"|"sdiv"|"lshr"|"ashr") ["exact"] type value , value
unfoldable pub exact_forms : Rule Op
exact_forms = made exact_of (seq exact_ops (seq (flag Exact) pairs))

abbrev pub exact_firsts : List Class
exact_firsts = Udiv ∷ Sdiv ∷ Lshr ∷ Ashr ∷ []

abbrev pub exact : Rule Op
exact = within exact_firsts [] false exact_forms

-- "urem" | "srem" | "and" | "or" | "xor"
abbrev pub bitwise_ops : Rule BinOp
bitwise_ops = either (means Urem binary.Urem) (either (means Srem binary.Srem) (either (means And binary.And) (either (means Or binary.Or) (means Xor binary.Xor))))

abbrev pub bitwise_of : BinOp × Pair → Op
bitwise_of z = operation.Bitwise z.0 z.1.0 z.1.1.0 z.1.1.1

-- ("urem"|"srem"|"and"|"or"|"xor") type value , value
unfoldable pub bitwise_forms : Rule Op
bitwise_forms = made bitwise_of (seq bitwise_ops pairs)

abbrev pub bitwise_firsts : List Class
bitwise_firsts = Urem ∷ Srem ∷ And ∷ Or ∷ Xor ∷ []

abbrev pub bitwise : Rule Op
bitwise = within bitwise_firsts [] false bitwise_forms

-- "sgt" | "sge" | "slt" | "sle"
unfoldable pub signed_order_forms : Rule Pred
signed_order_forms = either (means Sgt pred.Sgt) (either (means Sge pred.Sge) (either (means Slt pred.Slt) (means Sle pred.Sle)))

abbrev pub signed_orders : Rule Pred
signed_orders = within (Sgt ∷ Sge ∷ Slt ∷ Sle ∷ []) [] false signed_order_forms

-- "ugt" | "uge" | "ult" | "ule"
unfoldable pub unsigned_order_forms : Rule Pred
unsigned_order_forms = either (means Ugt pred.Ugt) (either (means Uge pred.Uge) (either (means Ult pred.Ult) (means Ule pred.Ule)))

abbrev pub unsigned_orders : Rule Pred
unsigned_orders = within (Ugt ∷ Uge ∷ Ult ∷ Ule ∷ []) [] false unsigned_order_forms

-- "eq" | "ne" | "ugt" | "uge" | "ult" | "ule" | "sgt" | "sge" | "slt" | "sle"
unfoldable pub predicate_forms : Rule Pred
predicate_forms = either (means Eq pred.Eq) (either (means Ne pred.Ne) (either unsigned_orders signed_orders))

abbrev pub predicates : Rule Pred
predicates = within (Eq ∷ Ne ∷ Ugt ∷ Uge ∷ Ult ∷ Ule ∷ Sgt ∷ Sge ∷ Slt ∷ Sle ∷ []) [] false predicate_forms

abbrev pub icmp_of : Pred × Pair → Op
icmp_of z = operation.Icmp z.0 z.1.0 z.1.1.0 z.1.1.1

-- "icmp" pred type value , value
unfoldable pub icmp_forms : Rule Op
icmp_forms = made icmp_of (Icmp ▷ seq predicates pairs)

abbrev pub icmps : Rule Op
icmps = within (Icmp ∷ []) [] false icmp_forms

abbrev pub select_of : TypedOperand × (TypedOperand × TypedOperand) → Op
select_of z = operation.Select z.0.ty z.0.value z.1.0.ty z.1.0.value z.1.1.ty z.1.1.value

-- "select" type value , type value , type value
unfoldable pub select_forms : Rule Op
select_forms = made select_of (Select ▷ seq typed_operands (seq (Comma ▷ typed_operands) (Comma ▷ typed_operands)))

abbrev pub selects : Rule Op
selects = within (Select ∷ []) [] false select_forms

-- "trunc" | "zext" | "sext" | "ptrtoint" | "inttoptr" | "bitcast"
unfoldable pub cast_op_forms : Rule CastOp
cast_op_forms =
    either (means Trunc cast.Trunc) (either (means Zext cast.Zext) (either (means Sext cast.Sext)
    (either (means Ptrtoint cast.PtrToInt) (either (means Inttoptr cast.IntToPtr) (means Bitcast cast.BitCast)))))

abbrev pub cast_firsts : List Class
cast_firsts = Trunc ∷ Zext ∷ Sext ∷ Ptrtoint ∷ Inttoptr ∷ Bitcast ∷ []

abbrev pub cast_ops : Rule CastOp
cast_ops = within cast_firsts [] false cast_op_forms

abbrev pub cast_of : CastOp × (TypedOperand × TextTree) → Op
cast_of z = operation.Cast z.0 z.1.0.ty z.1.0.value z.1.1

-- ("trunc"|"zext"|"sext"|"ptrtoint"|"inttoptr"|"bitcast") type value "to" type
unfoldable pub cast_forms : Rule Op
cast_forms = made cast_of (seq cast_ops (seq typed_operands (To ▷ types 64)))

abbrev pub casts : Rule Op
casts = within cast_firsts [] false cast_forms

-- "freeze" type value
unfoldable pub freeze_forms : Rule Op
freeze_forms = made (λ (o : TypedOperand). operation.Freeze o.ty o.value) (Freeze ▷ typed_operands)

abbrev pub freezes : Rule Op
freezes = within (Freeze ∷ []) [] false freeze_forms

-- operations on values other than arithmetic
abbrev pub other_value_ops : Rule Op
other_value_ops = either icmps (either selects (either casts freezes))

-- operations whose parts end before metadata
unfoldable pub value_op_forms : Rule Op
value_op_forms = either wrapping (either exact (either bitwise other_value_ops))

-- the first words of operations on values other than arithmetic
abbrev pub other_value_firsts : List Class
other_value_firsts = Icmp ∷ Select ∷ (cast_firsts ++ Freeze ∷ [])

-- the first words of operations on values
abbrev pub value_firsts : List Class
value_firsts = wrapping_firsts ++ exact_firsts ++ bitwise_firsts ++ other_value_firsts

abbrev pub value_ops : Rule Op
value_ops = within value_firsts [] false value_op_forms
