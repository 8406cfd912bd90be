-- The rules of operations on memory, and of all operations, keep the laws.
use Rattle.std.proofs.Common.{[], refl}
use Rattle.ir_words.specs.declared.class.Class.TheVariants as class
use Rattle.ir_rules.specs.Laws.{Lawful}
use Rattle.ir_rules.proofs.Laws.{either_lawful, made_lawful, seq_lawful, within_lawful}
use Rattle.ir_rules.proofs.Leaves.{ending_lawful}
use Rattle.ir_rules.proofs.Words.{before_law, flag_law}
use Rattle.ir_ops.specs.Operations.{alloca_forms, alloca_of, allocas, entry_op_forms, entry_ops, gep_forms, gep_of, geps, some_op, load_forms, load_of, loads, memory_op_forms, memory_ops, plain_op_forms, plain_ops, store_forms, store_of, stores}
use Rattle.ir_attributes.proofs.AttributeLaws.{attachments_law}
use Rattle.ir_attributes.proofs.ItemLaws.{items_law}
use Rattle.ir_attributes.specs.Items.{items}
use Rattle.ir_calls.proofs.CallLaws.{calls_law}
use Rattle.ir_ops.proofs.TailLaws.{align_tail_law, alloca_tail_law}
use Rattle.ir_types.proofs.TypeLaws.{types_law}
use Rattle.ir_values.specs.Values.{typed_operands}
use Rattle.ir_values.proofs.ValueLaws.{typed_operands_law}
use Rattle.ir_value_ops.proofs.ValueOpLaws.{value_ops_law}

pub index_items_law : Lawful (items typed_operands)
index_items_law = items_law typed_operands typed_operands_law refl refl refl

geps_law : Lawful geps
unfolding gep_forms
geps_law =
    within_lawful _ _ _ _ (made_lawful gep_of _ (before_law class.Getelementptr _ refl refl (seq_lawful _ _ (flag_law class.Inbounds refl refl)
    (seq_lawful _ _ (types_law 64) (seq_lawful _ _ (before_law class.Comma _ refl refl typed_operands_law) index_items_law refl) refl) refl))) refl refl refl

loads_law : Lawful loads
unfolding load_forms
loads_law =
    within_lawful _ _ _ _ (made_lawful load_of _ (before_law class.Load _ refl refl
    (seq_lawful _ _ (types_law 64) (seq_lawful _ _ (before_law class.Comma _ refl refl typed_operands_law) align_tail_law refl) refl))) refl refl refl

stores_law : Lawful stores
unfolding store_forms
stores_law =
    within_lawful _ _ _ _ (made_lawful store_of _ (before_law class.Store _ refl refl
    (seq_lawful _ _ typed_operands_law (seq_lawful _ _ (before_law class.Comma _ refl refl typed_operands_law) align_tail_law refl) refl))) refl refl refl

allocas_law : Lawful allocas
unfolding alloca_forms
allocas_law = within_lawful _ _ _ _ (made_lawful alloca_of _ (before_law class.Alloca _ refl refl (seq_lawful _ _ (types_law 64) alloca_tail_law refl))) refl refl refl

pub memory_ops_law : Lawful memory_ops
unfolding memory_op_forms
memory_ops_law = within_lawful _ _ _ _ (either_lawful _ _ geps_law (either_lawful _ _ loads_law stores_law refl refl) refl refl) refl refl refl

pub plain_ops_law : Lawful plain_ops
unfolding plain_op_forms
plain_ops_law =
    within_lawful _ _ _ _
    (either_lawful _ _ (made_lawful some_op _ (ending_lawful _ _ value_ops_law attachments_law refl))
    (either_lawful _ _ (made_lawful some_op _ memory_ops_law) (ending_lawful _ _ calls_law attachments_law refl) refl refl) refl refl)
    refl refl refl

pub entry_ops_law : Lawful entry_ops
unfolding entry_op_forms
entry_ops_law = within_lawful _ _ _ _ (either_lawful _ _ (made_lawful some_op _ allocas_law) plain_ops_law refl refl) refl refl refl
