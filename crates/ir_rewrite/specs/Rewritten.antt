-- A module with its types and its constant addresses replaced.
use Rattle.std.specs.Prelude.{List, map, Option, option_map}
use Rattle.ir_syntax.specs.Types.{TextTree}
use Rattle.ir_syntax.specs.declared.block.Block.{Block}
use Rattle.ir_syntax.specs.declared.function.Function.{Function}
use Rattle.ir_syntax.specs.declared.function.Param.{Param}
use Rattle.ir_syntax.specs.declared.instr.Arg.{Arg}
use Rattle.ir_syntax.specs.declared.instr.Instr.{Instr}
use Rattle.ir_syntax.specs.declared.instr.Op.{Op}
use Rattle.ir_syntax.specs.declared.instr.Op.TheVariants.{Wrapping, Exact, Bitwise, Icmp, Select, Cast, Freeze, Load, Store, Alloca, Call}
use Rattle.ir_syntax.specs.declared.instr.Op.TheVariants as op
use Rattle.ir_syntax.specs.declared.operand.GepParts.{GepParts}
use Rattle.ir_syntax.specs.declared.operand.Operand.{Operand}
use Rattle.ir_syntax.specs.declared.operand.Operand.TheVariants.{Gep}
use Rattle.ir_syntax.specs.declared.operand.TypedLiteral.{TypedLiteral}
use Rattle.ir_syntax.specs.declared.operand.TypedOperand.{TypedOperand}
use Rattle.ir_syntax.specs.declared.phi.Phi.{Phi}
use Rattle.ir_syntax.specs.declared.phi.PhiEntry.{PhiEntry}
use Rattle.ir_syntax.specs.declared.term.Case.{Case}
use Rattle.ir_syntax.specs.declared.term.Term.{Term}
use Rattle.ir_syntax.specs.declared.term.Term.TheVariants.{Ret, CondBr, Switch}

-- a part of a module, from what types and constant addresses become and the part as it was
abbrev pub Rewriting : Type 0 → Type 0
Rewriting A = (TextTree → TextTree) → (GepParts → GepParts) → A → A

-- each of a list
abbrev pub each : {A : Type 0} → Rewriting A → Rewriting (List A)
each rewritten ty_of gep_of xs = map (rewritten ty_of gep_of) xs

-- something that may be left out
abbrev pub maybe : {A : Type 0} → Rewriting A → Rewriting (Option A)
maybe rewritten ty_of gep_of x = option_map (rewritten ty_of gep_of) x

abbrev pub rewritten_type : Rewriting TextTree
rewritten_type ty_of gep_of ty = ty_of ty

-- of operands, a constant address alone
abbrev pub rewritten_operand : Rewriting Operand
rewritten_operand ty_of gep_of (Gep gep) = Gep (gep_of gep)
rewritten_operand ty_of gep_of other = other

abbrev pub rewritten_literal : Rewriting TypedLiteral
rewritten_literal ty_of gep_of l = record l { ty = ty_of l.ty }

abbrev pub rewritten_typed : Rewriting TypedOperand
rewritten_typed ty_of gep_of o = record o { ty = ty_of o.ty; value = rewritten_operand ty_of gep_of o.value }

abbrev pub rewritten_arg : Rewriting Arg
rewritten_arg ty_of gep_of a = record a { ty = ty_of a.ty; value = rewritten_operand ty_of gep_of a.value }

abbrev pub rewritten_op : Rewriting Op
rewritten_op ty_of gep_of (Wrapping op nuw nsw ty left right) =
    Wrapping op nuw nsw (ty_of ty) (rewritten_operand ty_of gep_of left) (rewritten_operand ty_of gep_of right)
rewritten_op ty_of gep_of (Exact op exact ty left right) =
    Exact op exact (ty_of ty) (rewritten_operand ty_of gep_of left) (rewritten_operand ty_of gep_of right)
rewritten_op ty_of gep_of (Bitwise op ty left right) =
    Bitwise op (ty_of ty) (rewritten_operand ty_of gep_of left) (rewritten_operand ty_of gep_of right)
rewritten_op ty_of gep_of (Icmp pred ty left right) =
    Icmp pred (ty_of ty) (rewritten_operand ty_of gep_of left) (rewritten_operand ty_of gep_of right)
rewritten_op ty_of gep_of (Select condition_ty condition then_ty then_value else_ty else_value) =
    Select (ty_of condition_ty) (rewritten_operand ty_of gep_of condition)
    (ty_of then_ty) (rewritten_operand ty_of gep_of then_value)
    (ty_of else_ty) (rewritten_operand ty_of gep_of else_value)
rewritten_op ty_of gep_of (Cast op from value to) = Cast op (ty_of from) (rewritten_operand ty_of gep_of value) (ty_of to)
rewritten_op ty_of gep_of (Freeze ty value) = Freeze (ty_of ty) (rewritten_operand ty_of gep_of value)
rewritten_op ty_of gep_of (op.Gep inbounds ty base_ty base indices) =
    op.Gep inbounds (ty_of ty) (ty_of base_ty) (rewritten_operand ty_of gep_of base) (each rewritten_typed ty_of gep_of indices)
rewritten_op ty_of gep_of (Load ty address_ty address align) =
    Load (ty_of ty) (ty_of address_ty) (rewritten_operand ty_of gep_of address) align
rewritten_op ty_of gep_of (Store ty value address_ty address align) =
    Store (ty_of ty) (rewritten_operand ty_of gep_of value) (ty_of address_ty) (rewritten_operand ty_of gep_of address) align
rewritten_op ty_of gep_of (Alloca ty count align) = Alloca (ty_of ty) (maybe rewritten_literal ty_of gep_of count) align
rewritten_op ty_of gep_of (Call result params callee args) =
    Call (maybe rewritten_type ty_of gep_of result) (maybe (each rewritten_type) ty_of gep_of params)
    callee (each rewritten_arg ty_of gep_of args)

abbrev pub rewritten_instr : Rewriting Instr
rewritten_instr ty_of gep_of i = record i { op = rewritten_op ty_of gep_of i.op }

abbrev pub rewritten_entry : Rewriting PhiEntry
rewritten_entry ty_of gep_of e = record e { value = rewritten_operand ty_of gep_of e.value }

abbrev pub rewritten_phi : Rewriting Phi
rewritten_phi ty_of gep_of p = record p { ty = ty_of p.ty; entries = each rewritten_entry ty_of gep_of p.entries }

abbrev pub rewritten_case : Rewriting Case
rewritten_case ty_of gep_of c = record c { ty = ty_of c.ty }

abbrev pub rewritten_term : Rewriting Term
rewritten_term ty_of gep_of (Ret line ty value) = Ret line (ty_of ty) (rewritten_operand ty_of gep_of value)
rewritten_term ty_of gep_of (CondBr line ty condition then_target else_target) =
    CondBr line (ty_of ty) (rewritten_operand ty_of gep_of condition) then_target else_target
rewritten_term ty_of gep_of (Switch line ty value default cases) =
    Switch line (ty_of ty) (rewritten_operand ty_of gep_of value) default (each rewritten_case ty_of gep_of cases)
rewritten_term ty_of gep_of other = other

abbrev pub rewritten_block : Rewriting Block
rewritten_block ty_of gep_of b = record b {
  phis = each rewritten_phi ty_of gep_of b.phis;
  instrs = each rewritten_instr ty_of gep_of b.instrs;
  term = rewritten_term ty_of gep_of b.term;
}

abbrev pub rewritten_param : Rewriting Param
rewritten_param ty_of gep_of p = record p { ty = maybe rewritten_type ty_of gep_of p.ty }

abbrev pub rewritten_function : Rewriting Function
rewritten_function ty_of gep_of f = record f {
  result = maybe rewritten_type ty_of gep_of f.result;
  params = each rewritten_param ty_of gep_of f.params;
  blocks = maybe (each rewritten_block) ty_of gep_of f.blocks;
}
