-- The lines of calls that break a rule (LangRef, "'call' Instruction" and "Intrinsic Functions").
use Rattle.std.specs.Prelude.{ℕ, not, Option, None, Some, List, []}
use Rattle.std.specs.List.{flat_map}
use Rattle.ir_call_rules.specs.Ops.{callee_of, instr_fits}
use Rattle.ir_ident.specs.declared.name.Name.{Name}
use Rattle.ir_scope.specs.Locals.{local_scalar}
use Rattle.ir_scope.specs.declared.scalar.Scalar.{Scalar}
use Rattle.ir_syntax.specs.Lines.{line_if}
use Rattle.ir_syntax.specs.declared.block.Block.{Block}
use Rattle.ir_syntax.specs.declared.function.Function.{Function}
use Rattle.ir_syntax.specs.declared.instr.Instr.{Instr}
use Rattle.ir_syntax.specs.declared.module.Module.{Module}

-- the line of an instruction that breaks one of these rules
abbrev pub instr_lines : (Name → Option Scalar) → (Name → Option Function) → Instr → List ℕ
instr_lines locals function_of i = line_if (not (instr_fits locals function_of i)) i.line

abbrev pub block_lines : (Name → Option Scalar) → (Name → Option Function) → Block → List ℕ
block_lines locals function_of b = flat_map (instr_lines locals function_of) b.instrs

abbrev pub body_lines : (Name → Option Scalar) → (Name → Option Function) → Option (List Block) → List ℕ
body_lines locals function_of None = []
body_lines locals function_of (Some blocks) = flat_map (block_lines locals function_of) blocks

abbrev pub function_lines : (Name → Option Function) → Function → List ℕ
function_lines function_of f = body_lines (local_scalar f) function_of f.blocks

-- those of all functions of a module
abbrev pub call_lines : Module → List ℕ
call_lines m = flat_map (function_lines (callee_of m)) m.functions
