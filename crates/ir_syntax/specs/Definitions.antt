-- The functions of a module that are defined.
use Rattle.std.specs.Prelude.{Bool, is_some, List}
use Rattle.std.specs.List.{filter}
use Rattle.ir_syntax.specs.declared.function.Function.{Function}
use Rattle.ir_syntax.specs.declared.module.Module.{Module}

-- a function with a body is defined, one without is declared
abbrev pub has_body : Function → Bool
has_body f = is_some f.blocks

abbrev pub defined_functions : Module → List Function
defined_functions m = filter has_body m.functions
