-- The lines of the instructions, phis, terminators and globals that break a rule on operations and operands.
use Rattle.std.specs.Prelude.{ℕ, Bool, ◌||◌, List, [], ◌++◌, Option, None, Some}
use Rattle.std.specs.List.{flat_map, list_any}
use Rattle.ir_geps.specs.Operands.{maybe_init_operands, part_operands}
use Rattle.ir_syntax.specs.Lines.{line_if}
use Rattle.ir_syntax.specs.declared.block.Block.{Block}
use Rattle.ir_syntax.specs.declared.function.Function.{Function}
use Rattle.ir_syntax.specs.declared.global.Global.{Global}
use Rattle.ir_syntax.specs.declared.instr.Instr.{Instr}
use Rattle.ir_syntax.specs.declared.instr.Op.{Op}
use Rattle.ir_syntax.specs.declared.module.Module.{Module}
use Rattle.ir_syntax.specs.declared.operand.Operand.{Operand}
use Rattle.ir_syntax.specs.declared.phi.Phi.{Phi}
use Rattle.ir_syntax.specs.declared.term.Term.{Term}
use Rattle.ir_walk.specs.Parts.{Part, instr_parts, phi_parts, term_parts}
use Rattle.ir_syntax.specs.Terms.{term_line}

-- whether one of the operands among these parts breaks the rule
abbrev pub any_breaks : (Operand → Bool) → List Part → Bool
any_breaks breaks parts = list_any breaks (flat_map part_operands parts)

abbrev pub phi_lines : (Operand → Bool) → Phi → List ℕ
phi_lines breaks p = line_if (any_breaks breaks (phi_parts p)) p.line

-- an instruction whose operation breaks the rule, or one of its operands
abbrev pub instr_lines : (Op → Bool) → (Operand → Bool) → Instr → List ℕ
instr_lines op_breaks breaks i = line_if (op_breaks i.op || any_breaks breaks (instr_parts i)) i.line

abbrev pub term_lines : (Operand → Bool) → Term → List ℕ
term_lines breaks t = line_if (any_breaks breaks (term_parts t)) (term_line t)

abbrev pub block_lines : (Op → Bool) → (Operand → Bool) → Block → List ℕ
block_lines op_breaks breaks b =
    flat_map (phi_lines breaks) b.phis ++ (flat_map (instr_lines op_breaks breaks) b.instrs ++ term_lines breaks b.term)

abbrev pub body_lines : (Op → Bool) → (Operand → Bool) → Option (List Block) → List ℕ
body_lines op_breaks breaks None = []
body_lines op_breaks breaks (Some blocks) = flat_map (block_lines op_breaks breaks) blocks

abbrev pub function_lines : (Op → Bool) → (Operand → Bool) → Function → List ℕ
function_lines op_breaks breaks f = body_lines op_breaks breaks f.blocks

abbrev pub global_lines : (Operand → Bool) → Global → List ℕ
global_lines breaks g = line_if (list_any breaks (maybe_init_operands g.init)) g.line

-- the lines of globals, and those of functions
abbrev pub operand_lines : (Op → Bool) → (Operand → Bool) → Module → List ℕ
operand_lines op_breaks breaks m = flat_map (global_lines breaks) m.globals ++ flat_map (function_lines op_breaks breaks) m.functions
