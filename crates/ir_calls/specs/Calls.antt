-- Calls (LangRef, "'call' Instruction"). One of an intrinsic that means nothing here is dropped.
use Rattle.std.specs.Prelude.{ℕ, Option, Some, None, List, [], ◌∷◌, false}
use Rattle.ir_syntax.specs.Types.{TextTree}
use Rattle.ir_syntax.specs.declared.instr.Arg.{Arg}
use Rattle.ir_syntax.specs.declared.instr.Op.{Op}
use Rattle.ir_syntax.specs.declared.instr.Op.TheVariants as operation
use Rattle.ir_ident.specs.declared.name.NameUse.{NameUse}
use Rattle.ir_syntax.specs.declared.operand.Operand.{Operand}
use Rattle.ir_syntax.specs.declared.operand.TypedOperand.{TypedOperand}
use Rattle.ir_words.specs.declared.class.Class.{Class}
use Rattle.ir_words.specs.declared.class.Class.TheVariants.{Bang, Call, Ccc, CloseRound, Coldcc, DroppedIntrinsic, Fastcc, Global, Intrinsic, Meta, Metadata, MetadataIntrinsic, Notail, OpenRound, Tail}
use Rattle.ir_rules.specs.Leaves.{ending, leading}
use Rattle.ir_rules.specs.Rules.{Rule, ◌▷◌, ◌◁◌, commas, dropped, either, made, option, seq, within, word}
use Rattle.ir_attributes.specs.Attributes.{attribute_flast, attributes}
use Rattle.ir_attributes.specs.Ignored.{metadata_body}
use Rattle.ir_types.specs.Types.{result_types, type_firsts, types}
use Rattle.ir_values.specs.Values.{global_uses_in, operands, typed_operands}

abbrev pub arg_of : TextTree × (Option ℕ × Operand) → Arg
arg_of z = record { ty = z.0; align = z.1.0; value = z.1.1 }

-- type attr* value
unfoldable pub arg_forms : Rule Arg
arg_forms = made arg_of (seq (types 64) (seq attributes operands))

abbrev pub args : Rule Arg
args = within type_firsts [] false arg_forms

-- ( arg,* )
unfoldable pub arg_list_forms : Rule (List Arg)
arg_list_forms = OpenRound ▷ commas args ◁ CloseRound

abbrev pub arg_lists : Rule (List Arg)
arg_lists = within (OpenRound ∷ []) [] false arg_list_forms

-- META ["(" BAL ")"] | ! { BAL } | type value
unfoldable pub metadata_forms : Rule (Unit {0})
metadata_forms = either metadata_body (made (λ (o : TypedOperand). tt) typed_operands)

abbrev pub metadata_value : Rule (Unit {0})
metadata_value = within (Meta ∷ Bang ∷ type_firsts) (OpenRound ∷ []) false metadata_forms

-- type attr* value | "metadata" (META ["(" BAL ")"] | ! { BAL } | type value)
unfoldable pub metadata_arg_forms : Rule (Unit {0})
metadata_arg_forms = either (Metadata ▷ metadata_value) (made (λ (a : Arg). tt) args)

-- the tokens that a type, or `metadata`, begins with
abbrev pub metadata_or_type_firsts : List Class
metadata_or_type_firsts = Metadata ∷ type_firsts

abbrev pub metadata_args : Rule (Unit {0})
metadata_args = within metadata_or_type_firsts (OpenRound ∷ []) false metadata_arg_forms

-- ( type attr* value | "metadata" .. ,* ), of which nothing is kept
unfoldable pub metadata_list_forms : Rule (Unit {0})
metadata_list_forms = OpenRound ▷ made (λ (xs : List (Unit {0})). tt) (commas metadata_args) ◁ CloseRound

abbrev pub metadata_lists : Rule (Unit {0})
metadata_lists = within (OpenRound ∷ []) [] false metadata_list_forms

-- the function that is called with its arguments; nothing of one whose calls are dropped
abbrev pub Callee : Type 0
Callee = Option (NameUse × List Arg)

-- GLOBAL ( arg,* ), where "metadata" stands in calls of some intrinsics alone
unfoldable pub callee_forms : Rule Callee
callee_forms =
    either (made (λ (z : NameUse × Unit {0}). None) (seq (global_uses_in (MetadataIntrinsic ∷ [])) metadata_lists))
    (either (made (λ (z : NameUse × List Arg). None) (seq (global_uses_in (DroppedIntrinsic ∷ [])) arg_lists))
    (made (λ (z : NameUse × List Arg). Some z) (seq (global_uses_in (Global ∷ Intrinsic ∷ [])) arg_lists)))

abbrev pub callees : Rule Callee
callees = within (MetadataIntrinsic ∷ DroppedIntrinsic ∷ Global ∷ Intrinsic ∷ []) [] false callee_forms

abbrev pub call_of : Option TextTree × (Option (List TextTree) × Callee) → Option Op
call_of z = called z.0 z.1.0 z.1.1
  where
    called : Option TextTree → Option (List TextTree) → Callee → Option Op
    called result params None = None
    called result params (Some c) = Some (operation.Call result params c.0 c.1)

-- ( type,* )
abbrev pub parameter_types : Rule (List TextTree)
parameter_types = OpenRound ▷ commas (types 64) ◁ CloseRound

-- "ccc" | "fastcc" | "coldcc"
abbrev pub convention : Rule (Unit {0})
convention = either (word Ccc) (either (word Fastcc) (word Coldcc))

abbrev pub convention_firsts : List Class
convention_firsts = Ccc ∷ Fastcc ∷ Coldcc ∷ []

-- convention* attr* rtype ["(" type,* ")"] GLOBAL ( arg,* ) attr*
unfoldable pub called_forms : Rule (Option Op)
called_forms = leading (dropped convention) (leading attributes
    (made call_of (seq result_types (seq (option parameter_types) (ending callees attributes)))))

-- ["tail"|"notail"] "call" ..
unfoldable pub call_forms : Rule (Option Op)
call_forms = leading (option (either (word Tail) (word Notail))) (Call ▷ called_forms)

-- the first words of calls
abbrev pub call_firsts : List Class
call_firsts = Tail ∷ Notail ∷ Call ∷ []

abbrev pub calls : Rule (Option Op)
calls = within call_firsts attribute_flast false call_forms
