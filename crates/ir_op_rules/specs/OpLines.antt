-- The lines of what breaks a rule on types (LangRef, "Instruction Reference"). Calls have rules of their own.
use Rattle.std.specs.Prelude.{ℕ, Bool, true, false, ◌&&◌, not, Option, None, Some, is_some, List, [], ◌++◌}
use Rattle.std.specs.List.{flat_map, list_all}
use Rattle.ir_ident.specs.declared.name.Name.{Name}
use Rattle.ir_op_rules.specs.Arithmetic.{binary_fits, choice_fits, pair_fits}
use Rattle.ir_op_rules.specs.Casts.{cast_fits}
use Rattle.ir_op_rules.specs.Control.{phi_fits, term_fits}
use Rattle.ir_op_rules.specs.Memory.{alloca_fits, gep_fits, load_fits, store_fits}
use Rattle.ir_op_rules.specs.Sizes.{are_sized, has_sizes}
use Rattle.ir_op_rules.specs.Switches.{cases_differ}
use Rattle.ir_op_rules.specs.Values.{condition_fits, is_value_type}
use Rattle.ir_scope.specs.Locals.{local_scalar}
use Rattle.ir_scope.specs.Operands.{value_fits}
use Rattle.ir_scope.specs.declared.scalar.Scalar.{Scalar}
use Rattle.ir_sizes.specs.Sized.{layout_in}
use Rattle.ir_syntax.specs.Lines.{line_if}
use Rattle.ir_syntax.specs.Types.{TextTree}
use Rattle.ir_syntax.specs.declared.block.Block.{Block}
use Rattle.ir_syntax.specs.declared.function.Function.{Function}
use Rattle.ir_syntax.specs.declared.instr.Instr.{Instr}
use Rattle.ir_syntax.specs.declared.instr.Op.{Op}
use Rattle.ir_syntax.specs.declared.instr.Op.TheVariants.{Wrapping, Exact, Bitwise, Icmp, Select, Cast, Freeze, Gep, Load, Store, Alloca, Call}
use Rattle.ir_syntax.specs.declared.module.Module.{Module}
use Rattle.ir_syntax.specs.declared.phi.Phi.{Phi}
use Rattle.ir_syntax.specs.declared.term.Term.{Term}
use Rattle.ir_walk.specs.Parts.{phi_parts, term_parts}
use Rattle.ty_core.specs.declared.extent.Layout.{Layout}
use Rattle.ir_syntax.specs.Terms.{term_line}

-- the types and alignments that an operation states, where `locals` has the types of local names
abbrev pub op_fits : (Name → Option Scalar) → Op → Bool
op_fits locals (Wrapping op nuw nsw ty left right) = binary_fits locals ty left right
op_fits locals (Exact op exact ty left right) = binary_fits locals ty left right
op_fits locals (Bitwise op ty left right) = binary_fits locals ty left right
op_fits locals (Icmp pred ty left right) = pair_fits locals ty left right
op_fits locals (Select condition_ty condition then_ty then_value else_ty else_value) =
    condition_fits locals condition_ty condition && choice_fits locals then_ty then_value else_ty else_value
op_fits locals (Cast op from value to) = cast_fits locals op from value to
op_fits locals (Freeze ty value) = value_fits locals ty value
op_fits locals (Gep inbounds ty base_ty base indices) = gep_fits locals base_ty base indices
op_fits locals (Load ty address_ty address align) = load_fits locals ty address_ty address align
op_fits locals (Store ty value address_ty address align) = store_fits locals ty value address_ty address align
op_fits locals (Alloca ty count align) = alloca_fits count align
op_fits locals (Call result params callee args) = true

abbrev pub is_store : Op → Bool
is_store (Store ty value address_ty address align) = true
is_store other = false

-- a `store` has no result
abbrev pub result_fits : Instr → Bool
result_fits i = not (is_store i.op && is_some i.result)

abbrev pub instr_fits : (Name → Option Scalar) → Instr → Bool
instr_fits locals i = result_fits i && op_fits locals i.op

-- the line of a phi, an instruction or a terminator for each of these rules that it breaks
abbrev pub phi_lines : (Name → Option Scalar) → (TextTree → Option Layout) → Phi → List ℕ
phi_lines locals layouts p = line_if (not (phi_fits locals p)) p.line ++ line_if (not (are_sized layouts (phi_parts p))) p.line

abbrev pub instr_lines : (Name → Option Scalar) → (TextTree → Option Layout) → Instr → List ℕ
instr_lines locals layouts i = line_if (not (instr_fits locals i)) i.line ++ line_if (not (has_sizes layouts i.op)) i.line

abbrev pub term_lines : (Name → Option Scalar) → (TextTree → Option Layout) → Option TextTree → Term → List ℕ
term_lines locals layouts result t =
    line_if (not (term_fits locals result t)) (term_line t)
    ++ (line_if (not (cases_differ t)) (term_line t) ++ line_if (not (are_sized layouts (term_parts t))) (term_line t))

-- those of all parts of a block in a function of a result type
abbrev pub block_lines : (Name → Option Scalar) → (TextTree → Option Layout) → Option TextTree → Block → List ℕ
block_lines locals layouts result b =
    flat_map (phi_lines locals layouts) b.phis ++ (flat_map (instr_lines locals layouts) b.instrs ++ term_lines locals layouts result b.term)

abbrev pub body_lines : (Name → Option Scalar) → (TextTree → Option Layout) → Option TextTree → Option (List Block) → List ℕ
body_lines locals layouts result None = []
body_lines locals layouts result (Some blocks) = flat_map (block_lines locals layouts result) blocks

-- the type of a value; `void` and `metadata` are none
abbrev pub is_valued : Option TextTree → Bool
is_valued None = true
is_valued (Some ty) = is_value_type ty

-- results and parameters are values, of declared functions too
abbrev pub signature_fits : Function → Bool
signature_fits f = is_valued f.result && list_all (λ p. is_valued p.ty) f.params

abbrev pub function_lines : (TextTree → Option Layout) → Function → List ℕ
function_lines layouts f = line_if (not (signature_fits f)) f.line ++ body_lines (local_scalar f) layouts f.result f.blocks

-- those of all functions of a module
abbrev pub op_lines : Module → List ℕ
op_lines m = flat_map (function_lines (layout_in m.types)) m.functions
