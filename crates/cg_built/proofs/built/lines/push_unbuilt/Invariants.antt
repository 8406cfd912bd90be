use Rattle.std.proofs.Common.{◌≡◌, ◌++◌, flat_map, take}
use Rattle.cg_built.specs.Unbuilt.{unbuilt_in}
use Rattle.cg_built.proofs.built.lines.push_unbuilt.Given as goal

abbrev pub invariant-loop-function : goal.invariant-loop-function
invariant-loop-function l = l.lines.items ≡ l.initial.lines.items ++ flat_map unbuilt_in (take l.function-index l.functions)
