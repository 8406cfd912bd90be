use Rattle.std.proofs.Common.{◌≡◌, ◌++◌, flat_map, not, take}
use Rattle.ir_check.specs.Hosts.{fits_host}
use Rattle.ir_syntax.specs.Lines.{line_if}
use Rattle.ir_check.proofs.hosts.push_functions.Given as goal

abbrev pub invariant-loop-function : goal.invariant-loop-function
invariant-loop-function l = l.lines.items ≡ l.initial.lines.items ++ flat_map (λ f. line_if (not (fits_host f)) f.line) (take l.function-index l.functions)
