-- The functions of a module that are defined, and those that are declared.
use Rattle.std.specs.Prelude.{not, List}
use Rattle.std.specs.List.{filter}
use Rattle.ir_syntax.specs.declared.function.Function.{Function}
use Rattle.ir_syntax.specs.declared.module.Module.{Module}
pub use Rattle.ir_syntax.specs.Definitions.{has_body, defined_functions}

abbrev pub declared_functions : Module → List Function
declared_functions m = filter (λ f. not (has_body f)) m.functions
