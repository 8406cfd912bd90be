-- The function that a run begins with.
use Rattle.std.specs.Prelude.{◌&&◌, Bool, true, false, bytes_eq, codes}
use Rattle.ir_ident.specs.Names.{name_bytes}
use Rattle.ir_syntax.specs.Definitions.{has_body}
use Rattle.ir_syntax.specs.declared.function.Function.{Function}
use Rattle.ir_syntax.specs.declared.linkage.Linkage.{Linkage}
use Rattle.ir_syntax.specs.declared.linkage.Linkage.TheVariants.{External, Internal}

-- other modules see it
abbrev pub is_external : Linkage → Bool
is_external External = true
is_external Internal = false

-- a definition that other modules see, by the name `main`
abbrev pub is_main : Function → Bool
is_main f = has_body f && is_external f.linkage && bytes_eq (name_bytes f.name) (codes "main")
