-- The rules of operations on values keep the laws.
use Rattle.std.proofs.Common.{true, false, refl}
use Rattle.cg_num.specs.declared.op.BinOp.TheVariants as binary
use Rattle.cg_num.specs.declared.pred.Pred.TheVariants as pred
use Rattle.ir_syntax.specs.declared.instr.CastOp.TheVariants as cast
use Rattle.ir_syntax.specs.declared.instr.Op.TheVariants as operation
use Rattle.ir_syntax.specs.declared.operand.TypedOperand.{TypedOperand}
use Rattle.ir_words.specs.declared.class.Class.TheVariants as class
use Rattle.ir_rules.specs.Laws.{Lawful}
use Rattle.ir_rules.proofs.Chains.{each_lawful}
use Rattle.ir_rules.proofs.Laws.{either_lawful, made_lawful, seq_lawful, within_lawful}
use Rattle.ir_rules.proofs.Words.{before_law, flag_law, means_law}
use Rattle.ir_value_ops.specs.ValueOps.{bitwise, bitwise_forms, bitwise_of, bitwise_ops, cast_forms, cast_of, cast_op_forms, cast_ops, casts, exact, exact_forms, exact_of, exact_ops, freeze_forms, freezes, icmp_forms, icmp_of, icmps, pair_forms, pairs, predicate_forms, predicates, select_forms, select_of, selects, signed_order_forms, signed_orders, unsigned_order_forms, unsigned_orders, value_op_forms, value_ops, wrap, wrap_forms, wrapping, wrapping_forms, wrapping_of, wrapping_ops, wraps, wraps_of}
use Rattle.ir_types.proofs.TypeLaws.{types_law}
use Rattle.ir_values.proofs.ValueLaws.{operands_law, typed_operands_law}

pairs_law : Lawful pairs
unfolding pair_forms
pairs_law =
    within_lawful _ _ _ _ (seq_lawful _ _ (types_law 64) (seq_lawful _ _ (operands_law 64) (before_law class.Comma _ refl refl (operands_law 64)) refl) refl) refl refl refl

wrapping_ops_law : Lawful wrapping_ops
wrapping_ops_law = either_lawful _ _ (means_law class.Add binary.Add refl refl) (either_lawful _ _ (means_law class.Sub binary.Sub refl refl) (either_lawful _ _ (means_law class.Mul binary.Mul refl refl) ((means_law class.Shl binary.Shl refl refl)) refl refl) refl refl) refl refl

pub wrap_law : Lawful wrap
wrap_law = either_lawful _ _ (means_law class.Nuw true refl refl) (means_law class.Nsw false refl refl) refl refl

pub wraps_law : Lawful wraps
unfolding wrap_forms
wraps_law = within_lawful _ _ _ _ (made_lawful wraps_of _ (each_lawful _ wrap_law refl refl)) refl refl refl

wrapping_law : Lawful wrapping
unfolding wrapping_forms
wrapping_law = within_lawful _ _ _ _ (made_lawful wrapping_of _ (seq_lawful _ _ wrapping_ops_law (seq_lawful _ _ wraps_law pairs_law refl) refl)) refl refl refl

exact_ops_law : Lawful exact_ops
exact_ops_law = either_lawful _ _ (means_law class.Udiv binary.Udiv refl refl) (either_lawful _ _ (means_law class.Sdiv binary.Sdiv refl refl) (either_lawful _ _ (means_law class.Lshr binary.Lshr refl refl) ((means_law class.Ashr binary.Ashr refl refl)) refl refl) refl refl) refl refl

exact_law : Lawful exact
unfolding exact_forms
exact_law =
    within_lawful _ _ _ _ (made_lawful exact_of _ (seq_lawful _ _ exact_ops_law (seq_lawful _ _ (flag_law class.Exact refl refl) pairs_law refl) refl)) refl refl refl

bitwise_ops_law : Lawful bitwise_ops
bitwise_ops_law = either_lawful _ _ (means_law class.Urem binary.Urem refl refl) (either_lawful _ _ (means_law class.Srem binary.Srem refl refl) (either_lawful _ _ (means_law class.And binary.And refl refl) (either_lawful _ _ (means_law class.Or binary.Or refl refl) ((means_law class.Xor binary.Xor refl refl)) refl refl) refl refl) refl refl) refl refl

bitwise_law : Lawful bitwise
unfolding bitwise_forms
bitwise_law = within_lawful _ _ _ _ (made_lawful bitwise_of _ (seq_lawful _ _ bitwise_ops_law pairs_law refl)) refl refl refl

signed_orders_law : Lawful signed_orders
unfolding signed_order_forms
signed_orders_law =
    within_lawful _ _ _ _ (either_lawful _ _ (means_law class.Sgt pred.Sgt refl refl) (either_lawful _ _ (means_law class.Sge pred.Sge refl refl) (either_lawful _ _ (means_law class.Slt pred.Slt refl refl) (means_law class.Sle pred.Sle refl refl) refl refl) refl refl) refl refl)
    refl refl refl

unsigned_orders_law : Lawful unsigned_orders
unfolding unsigned_order_forms
unsigned_orders_law =
    within_lawful _ _ _ _ (either_lawful _ _ (means_law class.Ugt pred.Ugt refl refl) (either_lawful _ _ (means_law class.Uge pred.Uge refl refl) (either_lawful _ _ (means_law class.Ult pred.Ult refl refl) (means_law class.Ule pred.Ule refl refl) refl refl) refl refl) refl refl)
    refl refl refl

predicates_law : Lawful predicates
unfolding predicate_forms
predicates_law =
    within_lawful _ _ _ _ (either_lawful _ _ (means_law class.Eq pred.Eq refl refl) (either_lawful _ _ (means_law class.Ne pred.Ne refl refl)
    (either_lawful _ _ unsigned_orders_law signed_orders_law refl refl) refl refl) refl refl) refl refl refl

icmps_law : Lawful icmps
unfolding icmp_forms
icmps_law = within_lawful _ _ _ _ (made_lawful icmp_of _ (before_law class.Icmp _ refl refl (seq_lawful _ _ predicates_law pairs_law refl))) refl refl refl

selects_law : Lawful selects
unfolding select_forms
selects_law =
    within_lawful _ _ _ _ (made_lawful select_of _ (before_law class.Select _ refl refl (seq_lawful _ _ typed_operands_law
    (seq_lawful _ _ (before_law class.Comma _ refl refl typed_operands_law) (before_law class.Comma _ refl refl typed_operands_law) refl) refl))) refl refl refl

cast_ops_law : Lawful cast_ops
unfolding cast_op_forms
cast_ops_law =
    within_lawful _ _ _ _ (either_lawful _ _ (means_law class.Trunc cast.Trunc refl refl) (either_lawful _ _ (means_law class.Zext cast.Zext refl refl) (either_lawful _ _ (means_law class.Sext cast.Sext refl refl) (either_lawful _ _ (means_law class.Ptrtoint cast.PtrToInt refl refl) (either_lawful _ _ (means_law class.Inttoptr cast.IntToPtr refl refl) ((means_law class.Bitcast cast.BitCast refl refl)) refl refl) refl refl) refl refl) refl refl) refl refl)
    refl refl refl

casts_law : Lawful casts
unfolding cast_forms
casts_law =
    within_lawful _ _ _ _ (made_lawful cast_of _ (seq_lawful _ _ cast_ops_law
    (seq_lawful _ _ typed_operands_law (before_law class.To _ refl refl (types_law 64)) refl) refl)) refl refl refl

freezes_law : Lawful freezes
unfolding freeze_forms
freezes_law =
    within_lawful _ _ _ _ (made_lawful (λ (o : TypedOperand). operation.Freeze o.ty o.value) _ (before_law class.Freeze _ refl refl typed_operands_law)) refl refl refl

pub value_ops_law : Lawful value_ops
unfolding value_op_forms
value_ops_law =
    within_lawful _ _ _ _
    (either_lawful _ _ wrapping_law (either_lawful _ _ exact_law (either_lawful _ _ bitwise_law (either_lawful _ _ icmps_law
    (either_lawful _ _ selects_law (either_lawful _ _ casts_law freezes_law refl refl) refl refl) refl refl) refl refl) refl refl) refl refl)
    refl refl refl
