-- The parts of instructions, terminators and blocks in the order of the text.
use Rattle.std.specs.Prelude.{List, [], ◌∷◌, ◌++◌, Option, None, Some}
use Rattle.std.specs.List.{flat_map}
use Rattle.ir_ident.specs.declared.name.NameUse.{NameUse}
use Rattle.ir_syntax.specs.Types.{TextTree}
use Rattle.ir_syntax.specs.declared.block.Block.{Block}
use Rattle.ir_syntax.specs.declared.function.Function.{Function}
use Rattle.ir_syntax.specs.declared.function.Param.{Param}
use Rattle.ir_syntax.specs.declared.instr.Arg.{Arg}
use Rattle.ir_syntax.specs.declared.instr.Instr.{Instr}
use Rattle.ir_syntax.specs.declared.instr.Op.{Op}
use Rattle.ir_syntax.specs.declared.instr.Op.TheVariants.{Wrapping, Exact, Bitwise, Icmp, Select, Cast, Freeze, Gep, Load, Store, Alloca, Call}
use Rattle.ir_syntax.specs.declared.operand.Operand.{Operand}
use Rattle.ir_syntax.specs.declared.operand.TypedLiteral.{TypedLiteral}
use Rattle.ir_syntax.specs.declared.operand.TypedOperand.{TypedOperand}
use Rattle.ir_syntax.specs.declared.phi.Phi.{Phi}
use Rattle.ir_syntax.specs.declared.phi.PhiEntry.{PhiEntry}
use Rattle.ir_syntax.specs.declared.term.Case.{Case}
use Rattle.ir_syntax.specs.declared.term.Term.{Term}
use Rattle.ir_syntax.specs.declared.term.Term.TheVariants.{ReturnVoid, Ret, Br, CondBr, Switch, Unreachable}

-- a type, an operand, the function that is called, or the label of another block
pub data Part : Type 0 where
  type_part : TextTree → Part
  operand_part : Operand → Part
  callee_part : NameUse → Part
  label_part : NameUse → Part

-- those of something that may be left out
abbrev pub maybe_parts : {A : Type 0} → (A → List Part) → Option A → List Part
maybe_parts parts None = []
maybe_parts parts (Some x) = parts x

abbrev pub type_parts : TextTree → List Part
type_parts ty = type_part ty ∷ []

-- an operand behind its type
abbrev pub value_parts : TextTree → Operand → List Part
value_parts ty value = type_part ty ∷ operand_part value ∷ []

-- two operands of one type
abbrev pub pair_parts : TextTree → Operand → Operand → List Part
pair_parts ty left right = type_part ty ∷ operand_part left ∷ operand_part right ∷ []

-- the type of an integer literal
abbrev pub literal_parts : TypedLiteral → List Part
literal_parts l = type_part l.ty ∷ []

abbrev pub typed_parts : TypedOperand → List Part
typed_parts o = value_parts o.ty o.value

abbrev pub arg_parts : Arg → List Part
arg_parts a = value_parts a.ty a.value

abbrev pub op_parts : Op → List Part
op_parts (Wrapping op nuw nsw ty left right) = pair_parts ty left right
op_parts (Exact op exact ty left right) = pair_parts ty left right
op_parts (Bitwise op ty left right) = pair_parts ty left right
op_parts (Icmp pred ty left right) = pair_parts ty left right
op_parts (Select condition_ty condition then_ty then_value else_ty else_value) =
    value_parts condition_ty condition ++ (value_parts then_ty then_value ++ value_parts else_ty else_value)
op_parts (Cast op from value to) = value_parts from value ++ type_parts to
op_parts (Freeze ty value) = value_parts ty value
op_parts (Gep inbounds ty base_ty base indices) = type_part ty ∷ (value_parts base_ty base ++ flat_map typed_parts indices)
op_parts (Load ty address_ty address align) = type_part ty ∷ value_parts address_ty address
op_parts (Store ty value address_ty address align) = value_parts ty value ++ value_parts address_ty address
op_parts (Alloca ty count align) = type_part ty ∷ maybe_parts literal_parts count
op_parts (Call result params callee args) =
    maybe_parts type_parts result ++ (maybe_parts (flat_map type_parts) params ++ callee_part callee ∷ flat_map arg_parts args)

abbrev pub instr_parts : Instr → List Part
instr_parts i = op_parts i.op

abbrev pub entry_parts : PhiEntry → List Part
entry_parts e = operand_part e.value ∷ label_part e.block ∷ []

abbrev pub phi_parts : Phi → List Part
phi_parts p = type_part p.ty ∷ flat_map entry_parts p.entries

abbrev pub case_parts : Case → List Part
case_parts c = type_part c.ty ∷ label_part c.target ∷ []

abbrev pub term_parts : Term → List Part
term_parts (ReturnVoid line) = []
term_parts (Ret line ty value) = value_parts ty value
term_parts (Br line target) = label_part target ∷ []
term_parts (CondBr line ty condition then_target else_target) =
    value_parts ty condition ++ label_part then_target ∷ label_part else_target ∷ []
term_parts (Switch line ty value default cases) = value_parts ty value ++ label_part default ∷ flat_map case_parts cases
term_parts (Unreachable line) = []

abbrev pub block_parts : Block → List Part
block_parts b = flat_map phi_parts b.phis ++ (flat_map instr_parts b.instrs ++ term_parts b.term)

-- the type of a parameter; `metadata` is none
abbrev pub param_parts : Param → List Part
param_parts p = maybe_parts type_parts p.ty

-- the type of the result, and those of the parameters
abbrev pub signature_parts : Function → List Part
signature_parts f = maybe_parts type_parts f.result ++ flat_map param_parts f.params

abbrev pub function_parts : Function → List Part
function_parts f = signature_parts f ++ maybe_parts (flat_map block_parts) f.blocks
