-- The lines of the global variables and aliases that break a rule on types (LangRef, "Global Variables" and "Aliases").
use Rattle.std.specs.Prelude.{ℕ, ◌&&◌, not, List, ◌++◌}
use Rattle.std.specs.List.{flat_map}
use Rattle.ir_global_rules.specs.Fits.{init_fits}
use Rattle.ir_global_rules.specs.Sized.{is_alias_sized, is_global_sized}
use Rattle.ir_scope.specs.Alignments.{is_aligned}
use Rattle.ir_syntax.specs.Lines.{line_if}
use Rattle.ir_syntax.specs.declared.alias.Alias.{Alias}
use Rattle.ir_syntax.specs.declared.global.Global.{Global}
use Rattle.ir_syntax.specs.declared.module.Module.{Module}
use Rattle.ir_syntax.specs.declared.type_def.TypeDef.{TypeDef}

-- the greatest alignment of a global variable
abbrev pub align_limit : ℕ
align_limit = 4096

-- the line of a global variable whose alignment breaks a rule, and that of one whose types do: they have sizes, and its initialiser fits
abbrev pub variable_lines : List TypeDef → Global → List ℕ
variable_lines defs g =
    line_if (not (is_aligned align_limit g.align)) g.line ++ line_if (not (is_global_sized defs g && init_fits defs g)) g.line

abbrev pub alias_lines : List TypeDef → Alias → List ℕ
alias_lines defs a = line_if (not (is_alias_sized defs a)) a.line

-- those of all global variables and aliases, by these definitions of types
abbrev pub lines_by : List TypeDef → Module → List ℕ
lines_by defs m = flat_map (variable_lines defs) m.globals ++ flat_map (alias_lines defs) m.aliases

abbrev pub global_lines : Module → List ℕ
global_lines m = lines_by m.types m
