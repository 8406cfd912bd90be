use Rattle.std.proofs.Common.{◌≡◌, ◌++◌, take, flat_map}
use Rattle.ir_naming.specs.Repeated.{local_names, repeats}
use Rattle.ir_naming.proofs.repeated.push_repeated_locals.Given as goal

abbrev pub invariant-loop-function : goal.invariant-loop-function
invariant-loop-function l =
    l.lines.items ≡ l.initial.lines.items ++ flat_map (λ f. repeats (local_names f)) (take l.function-index l.functions)
