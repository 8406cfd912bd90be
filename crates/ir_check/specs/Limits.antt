-- What a module has too much of.
use Rattle.std.specs.Prelude.{Option, None, Some, List, nat_lt, length, if◌then◌else◌}
use Rattle.std.specs.List.{list_any, sum_by}
use Rattle.ir_syntax.specs.Definitions.{defined_functions}
use Rattle.ir_cfg.specs.Sizes.{function_size, module_size}
use Rattle.ir_mentions.specs.Mentions.{mentioned_places}
use Rattle.ir_syntax.specs.declared.function.Function.{Function}
use Rattle.ir_syntax.specs.declared.refusal.Count.{Count}
use Rattle.ir_syntax.specs.declared.refusal.Count.TheVariants.{Functions, OneFunction, Instructions, Arguments, TypePlaces}
use Rattle.ir_syntax.specs.declared.module.Module.{Module}

-- whether one function is too long, or all of them are
abbrev pub exceeded_size : List Function → Option Count
exceeded_size functions =
    if list_any (λ f. nat_lt 65536 (function_size f)) functions then Some OneFunction
    else if nat_lt 262144 (sum_by function_size functions) then Some Instructions
    else None

-- the first limit that is exceeded, in this order
abbrev pub exceeded_limit : Module → Option Count
exceeded_limit m =
    if nat_lt 4096 (length (defined_functions m)) then Some Functions
    else if list_any (λ f. nat_lt 65536 (function_size f)) m.functions then Some OneFunction
    else if nat_lt 262144 (module_size m) then Some Instructions
    else if list_any (λ f. nat_lt 64 (length f.params)) m.functions then Some Arguments
    else if nat_lt 4194304 (mentioned_places m) then Some TypePlaces
    else None
