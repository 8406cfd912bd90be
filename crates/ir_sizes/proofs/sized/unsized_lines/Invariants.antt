use Rattle.std.proofs.Common.{◌≡◌, take}
use Rattle.ir_sizes.specs.Sized.{unsized_lines_in}
use Rattle.ir_sizes.proofs.sized.unsized_lines.Given as goal

abbrev pub invariant-loop-def : goal.invariant-loop-def
invariant-loop-def l = l.lines.items ≡ unsized_lines_in l.defs (take l.def-index l.defs)
