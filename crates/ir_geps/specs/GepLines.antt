-- The lines of what has a getelementptr with an index out of range.
use Rattle.std.specs.Prelude.{ℕ, Bool, false, not, List, ◌++◌, map}
use Rattle.std.specs.List.{flat_map}
use Rattle.ir_geps.specs.Indices.{operand_index}
use Rattle.ir_geps.specs.OperandLines.{operand_lines}
use Rattle.ir_geps.specs.Ranges.{is_in_range, parts_in_range}
use Rattle.ir_syntax.specs.Lines.{line_if}
use Rattle.ir_syntax.specs.declared.alias.Alias.{Alias}
use Rattle.ir_syntax.specs.declared.alias.AliasBase.{AliasBase}
use Rattle.ir_syntax.specs.declared.alias.AliasBase.TheVariants as base
use Rattle.ir_syntax.specs.declared.instr.Op.{Op}
use Rattle.ir_syntax.specs.declared.instr.Op.TheVariants as op
use Rattle.ir_syntax.specs.declared.module.Module.{Module}
use Rattle.ir_syntax.specs.declared.operand.Operand.{Operand}
use Rattle.ir_syntax.specs.declared.operand.Operand.TheVariants as operand
use Rattle.ir_syntax.specs.declared.type_def.TypeDef.{TypeDef}

-- whether an operation is a getelementptr with an index out of range
abbrev pub op_breaks : List TypeDef → Op → Bool
op_breaks defs (op.Gep inbounds ty base_ty address indices) = not (is_in_range defs ty (map operand_index indices))
op_breaks defs other = false

-- the same of a constant
abbrev pub operand_breaks : List TypeDef → Operand → Bool
operand_breaks defs (operand.Gep gep) = not (parts_in_range defs gep)
operand_breaks defs other = false

abbrev pub base_breaks : List TypeDef → AliasBase → Bool
base_breaks defs (base.Gep gep) = not (parts_in_range defs gep)
base_breaks defs other = false

abbrev pub alias_lines : List TypeDef → Alias → List ℕ
alias_lines defs a = line_if (base_breaks defs a.base) a.line

-- the lines of globals, of what functions have, and of aliases
abbrev pub gep_lines_by : List TypeDef → Module → List ℕ
gep_lines_by defs m = operand_lines (op_breaks defs) (operand_breaks defs) m ++ flat_map (alias_lines defs) m.aliases

abbrev pub gep_lines : Module → List ℕ
gep_lines m = gep_lines_by m.types m
