-- What an instruction is about to do (LangRef, "Instruction Reference").
use Rattle.std.specs.Prelude.{max, ℕ, true, false, Option, None, Some, List, map, slice_get, if◌then◌else◌}
use Rattle.std.specs.Option.{option_and_then, option_map_or}
use Rattle.cg_num.specs.declared.flags.Flags.{Flags}
use Rattle.ir_aliases.specs.Ends.{called_function}
use Rattle.ir_ident.specs.Names.{name_bytes}
use Rattle.ir_ident.specs.declared.name.Name.{Name}
use Rattle.ir_mem.specs.Bytes.{to_little}
use Rattle.ir_mem.specs.declared.block.Block.{Block}
use Rattle.ir_op_rules.specs.Sizes.{alloca_size, count_of, is_small_alloca}
use Rattle.ir_sem.specs.Accesses.{align_or, is_aligned, may_access, value_at, value_size}
use Rattle.ir_sem.specs.Actions.{Action, give, choose, reserve, write, write_any, enter, break, given}
use Rattle.ir_sem.specs.Addresses.{Loaded}
use Rattle.ir_sem.specs.Elements.{element_address}
use Rattle.ir_sem.specs.Intrinsics.{values_of, declared_action}
use Rattle.ir_sem.specs.Locals.{Locals}
use Rattle.ir_sem.specs.Operands.{bits_of, operand_value}
use Rattle.ir_sem.specs.Operations.{binary, cast, compared, selected}
use Rattle.ir_sem.specs.declared.argument.Argument.{Argument}
use Rattle.ir_sem.specs.declared.value.Value.{Value}
use Rattle.ir_sem.specs.declared.value.Value.TheVariants.{Number, Poison}
use Rattle.ir_sizes.specs.Sized.{layout_in}
use Rattle.ir_syntax.specs.declared.function.Function as function
use Rattle.ir_syntax.specs.declared.instr.Arg.{Arg}
use Rattle.ir_syntax.specs.declared.instr.Op.{Op}
use Rattle.ir_syntax.specs.declared.instr.Op.TheVariants.{Wrapping, Exact, Bitwise, Icmp, Select, Cast, Freeze, Gep, Load, Store, Alloca, Call}
use Rattle.ty_core.specs.declared.extent.Layout.{Layout}

abbrev pub no_flags : Flags
no_flags = record { nuw = false; nsw = false; exact = false }

-- only poison leaves a choice
abbrev pub frozen_action : ℕ → Value → Action
frozen_action bits (Number n) = give (Number n)
frozen_action bits Poison = choose bits

abbrev pub or_break : Option Value → Action
or_break None = break
or_break (Some value) = give value

-- a value of so many bits is read
abbrev pub load_action : List Block → ℕ → ℕ → Value → Action
load_action blocks bits align (Number at) = if is_aligned at align then or_break (value_at blocks at bits) else break
load_action blocks bits align Poison = break

-- poison has no bytes: any may be stored
abbrev pub written : ℕ → ℕ → Value → Action
written at size (Number n) = write at (to_little size n)
written at size Poison = write_any at size

abbrev pub store_action : List Block → ℕ → ℕ → Value → Value → Action
store_action blocks size align value (Number at) = if may_access blocks at size align true then written at size value else break
store_action blocks size align value Poison = break

-- so many values of a layout; no checked module has one without a size, or too large
abbrev pub alloca_action : Option Layout → Option ℕ → ℕ → Action
alloca_action (Some each) (Some count) align =
    if is_small_alloca (Some each) (Some count) then reserve (alloca_size each count) align else break
alloca_action each count align = break

abbrev pub argument : Loaded → Locals → Arg → Argument
argument l locals a = record { value = operand_value l locals a.ty a.value; align = option_map_or (max 1) a.align 1 }

-- a function that is defined is entered, another one is known by its name
abbrev pub callee_action : List Block → Option function.Function → List Argument → Action
callee_action blocks None arguments = break
callee_action blocks (Some f) arguments = by f.blocks
  where
    by : {A : Type 0} → Option A → Action
    by (Some body) = enter f (values_of arguments)
    by None = declared_action blocks (name_bytes f.name) arguments

abbrev pub callee : Loaded → Name → Option function.Function
callee l name = option_and_then (slice_get l.text.functions) (called_function l.text name)

-- by the operands' values and the live blocks
abbrev pub op_action : Loaded → Locals → List Block → Op → Action
op_action l locals blocks (Wrapping op nuw nsw ty left right) =
    given (binary op (record { nuw = nuw; nsw = nsw; exact = false }) (bits_of ty) (operand_value l locals ty left) (operand_value l locals ty right))
op_action l locals blocks (Exact op exact ty left right) =
    given (binary op (record { nuw = false; nsw = false; exact = exact }) (bits_of ty) (operand_value l locals ty left) (operand_value l locals ty right))
op_action l locals blocks (Bitwise op ty left right) =
    given (binary op no_flags (bits_of ty) (operand_value l locals ty left) (operand_value l locals ty right))
op_action l locals blocks (Icmp pred ty left right) =
    give (compared pred (bits_of ty) (operand_value l locals ty left) (operand_value l locals ty right))
op_action l locals blocks (Select condition_ty condition then_ty then_value else_ty else_value) =
    give (selected (operand_value l locals condition_ty condition) (operand_value l locals then_ty then_value) (operand_value l locals else_ty else_value))
op_action l locals blocks (Cast op from value to) = give (cast op (bits_of from) (bits_of to) (operand_value l locals from value))
op_action l locals blocks (Freeze ty value) = frozen_action (bits_of ty) (operand_value l locals ty value)
op_action l locals blocks (Gep inbounds ty base_ty base indices) =
    give (element_address l.text.types (operand_value l locals) ty (operand_value l locals base_ty base) indices)
op_action l locals blocks (Load ty address_ty address align) =
    load_action blocks (bits_of ty) (align_or l.text.types ty align) (operand_value l locals address_ty address)
op_action l locals blocks (Store ty value address_ty address align) =
    store_action blocks (value_size ty) (align_or l.text.types ty align) (operand_value l locals ty value) (operand_value l locals address_ty address)
op_action l locals blocks (Alloca ty count align) =
    alloca_action (layout_in l.text.types ty) (count_of count) (align_or l.text.types ty align)
op_action l locals blocks (Call result params name args) =
    callee_action blocks (callee l name.name) (map (argument l locals) args)
