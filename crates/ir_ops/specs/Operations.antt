-- Operations (LangRef, "Instruction Reference"): those on memory, and which may stand in a block.
use Rattle.std.specs.Prelude.{ℕ, Option, Some, List, [], ◌∷◌, ◌++◌, Bool, false}
use Rattle.ir_syntax.specs.Types.{TextTree}
use Rattle.ir_syntax.specs.declared.instr.Op.{Op}
use Rattle.ir_syntax.specs.declared.instr.Op.TheVariants as operation
use Rattle.ir_syntax.specs.declared.operand.TypedOperand.{TypedOperand}
use Rattle.ir_words.specs.declared.class.Class.{Class}
use Rattle.ir_words.specs.declared.class.Class.TheVariants.{Alloca, Comma, Getelementptr, Inbounds, Load, Store}
use Rattle.ir_rules.specs.Leaves.{ending, flag}
use Rattle.ir_rules.specs.Rules.{Rule, ◌▷◌, either, made, seq, within}
use Rattle.ir_attributes.specs.Attributes.{attachments, attribute_flast}
use Rattle.ir_attributes.specs.Items.{items}
use Rattle.ir_calls.specs.Calls.{call_firsts, calls}
use Rattle.ir_value_ops.specs.ValueOps.{value_firsts, value_ops}
use Rattle.ir_ops.specs.Tails.{Allocation, align_tail, alloca_tail}
use Rattle.ir_types.specs.Types.{types}
use Rattle.ir_values.specs.Values.{typed_operands}

abbrev pub gep_of : Bool × (TextTree × (TypedOperand × List TypedOperand)) → Op
gep_of z = operation.Gep z.0 z.1.0 z.1.1.0.ty z.1.1.0.value z.1.1.1

-- "getelementptr" ["inbounds"] type , type value (, type value)* md*
unfoldable pub gep_forms : Rule Op
gep_forms = made gep_of (Getelementptr ▷ seq (flag Inbounds) (seq (types 64) (seq (Comma ▷ typed_operands) (items typed_operands))))

abbrev pub geps : Rule Op
geps = within (Getelementptr ∷ []) (Comma ∷ []) false gep_forms

abbrev pub load_of : TextTree × (TypedOperand × Option ℕ) → Op
load_of z = operation.Load z.0 z.1.0.ty z.1.0.value z.1.1

-- "load" type , type value [, "align" INT] md*
unfoldable pub load_forms : Rule Op
load_forms = made load_of (Load ▷ seq (types 64) (seq (Comma ▷ typed_operands) align_tail))

abbrev pub loads : Rule Op
loads = within (Load ∷ []) (Comma ∷ []) false load_forms

abbrev pub store_of : TypedOperand × (TypedOperand × Option ℕ) → Op
store_of z = operation.Store z.0.ty z.0.value z.1.0.ty z.1.0.value z.1.1

-- "store" type value , type value [, "align" INT] md*
unfoldable pub store_forms : Rule Op
store_forms = made store_of (Store ▷ seq typed_operands (seq (Comma ▷ typed_operands) align_tail))

abbrev pub stores : Rule Op
stores = within (Store ∷ []) (Comma ∷ []) false store_forms

abbrev pub alloca_of : TextTree × Allocation → Op
alloca_of z = operation.Alloca z.0 z.1.0 z.1.1

-- "alloca" type [, type INT] [, "align" INT] md*
unfoldable pub alloca_forms : Rule Op
alloca_forms = made alloca_of (Alloca ▷ seq (types 64) alloca_tail)

abbrev pub allocas : Rule Op
allocas = within (Alloca ∷ []) (Comma ∷ []) false alloca_forms

-- operations on memory, with what metadata stands behind them
unfoldable pub memory_op_forms : Rule Op
memory_op_forms = either geps (either loads stores)

abbrev pub memory_firsts : List Class
memory_firsts = Getelementptr ∷ Load ∷ Store ∷ []

abbrev pub memory_ops : Rule Op
memory_ops = within memory_firsts (Comma ∷ []) false memory_op_forms

abbrev pub some_op : Op → Option Op
some_op op = Some op

-- op md*, in a block where `alloca` may not stand; nothing of a dropped call
unfoldable pub plain_op_forms : Rule (Option Op)
plain_op_forms =
    either (made some_op (ending value_ops attachments)) (either (made some_op memory_ops) (ending calls attachments))

-- the first words of operations that may stand in any block
abbrev pub op_firsts : List Class
op_firsts = value_firsts ++ memory_firsts ++ call_firsts

-- the tokens that may go on behind an operation
abbrev pub op_flast : List Class
op_flast = Comma ∷ attribute_flast

abbrev pub plain_ops : Rule (Option Op)
plain_ops = within op_firsts op_flast false plain_op_forms

-- op md*, in the first block
unfoldable pub entry_op_forms : Rule (Option Op)
entry_op_forms = either (made some_op allocas) plain_ops

abbrev pub entry_ops : Rule (Option Op)
entry_ops = within (Alloca ∷ op_firsts) op_flast false entry_op_forms
