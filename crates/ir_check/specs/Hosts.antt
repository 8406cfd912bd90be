-- The types of the functions of the host (LangRef, "Function Type").
use Rattle.std.specs.Prelude.{ℕ, Bool, true, false, ◌&&◌, ◌||◌, ◌==◌, not, Option, None, Some, List, [], ◌∷◌, ◌++◌, bytes_eq, codes, if◌then◌else◌}
use Rattle.std.specs.List.{flat_map}
use Rattle.ir_ident.specs.Names.{name_bytes}
use Rattle.ir_syntax.specs.Lines.{line_if}
use Rattle.ir_syntax.specs.Types.{TextTree, int}
use Rattle.ir_syntax.specs.declared.function.Function.{Function}
use Rattle.ir_syntax.specs.declared.function.Param.{Param}
use Rattle.ir_syntax.specs.declared.global.Global.{Global}
use Rattle.ir_syntax.specs.declared.module.Module.{Module}

abbrev pub is_i32 : Option TextTree → Bool
is_i32 (Some (int bits)) = bits == 32
is_i32 other = false

abbrev pub is_void : Option TextTree → Bool
is_void None = true
is_void (Some ty) = false

abbrev pub takes_i32 : List Param → Bool
takes_i32 (param ∷ []) = is_i32 param.ty
takes_i32 other = false

abbrev pub takes_none : List Param → Bool
takes_none [] = true
takes_none (param ∷ params) = false

-- the functions of the host have types of their own: `void (i32)` to put a byte, and `i32 ()` to get one
abbrev pub fits_host : Function → Bool
fits_host f =
    if bytes_eq (name_bytes f.name) (codes "__host_put") then is_void f.result && takes_i32 f.params
    else if bytes_eq (name_bytes f.name) (codes "__host_get") then is_i32 f.result && takes_none f.params
    else true

-- a function of the host is no variable
abbrev pub is_host : Global → Bool
is_host g = bytes_eq (name_bytes g.name) (codes "__host_put") || bytes_eq (name_bytes g.name) (codes "__host_get")

-- the lines of functions and variables that have the name of a function of the host, and another type
abbrev pub host_lines : Module → List ℕ
host_lines m = flat_map (λ f. line_if (not (fits_host f)) f.line) m.functions ++ flat_map (λ g. line_if (is_host g) g.line) m.globals
