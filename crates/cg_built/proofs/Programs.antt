-- What holds of a module of which all is built.
use Rattle.std.proofs.Common.{◌≡◌, ◌≤◌, [], length, map, All}
use Rattle.std.specs.List.{IsDistinct}
use Rattle.std.specs.Str.{bytes_eq}
use Rattle.ir_syntax.specs.declared.module.Module.{Module}
use Rattle.cg_built.specs.Built.{IsBuiltFunction, function_name}
use Rattle.cg_built.specs.Definitions.{defined_functions}

-- it has functions alone that have text, each of the form that is built; their names differ, and they are not too many
pub record IsProgram (m : Module) : Type 0 where
  pub globals : m.globals ≡ []
  pub functions : All IsBuiltFunction (defined_functions m)
  pub aliases : m.aliases ≡ []
  pub differ : IsDistinct bytes_eq (map function_name (defined_functions m))
  pub few : length (defined_functions m) ≤ 4096
