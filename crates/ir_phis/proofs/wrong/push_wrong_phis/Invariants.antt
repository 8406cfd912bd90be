use Rattle.std.proofs.Common.{◌≡◌, ◌++◌, take}
use Rattle.ir_ident.specs.NameMaps.{value_of}
use Rattle.ir_phis.specs.Wrong.{wrong_phis}
use Rattle.ir_phis.proofs.wrong.push_wrong_phis.Given as goal

abbrev pub invariant-loop-phi : goal.invariant-loop-phi
invariant-loop-phi l = l.lines.items ≡ l.initial.lines.items ++ wrong_phis (value_of l.places) l.predecessors (take l.phi-index l.phis)
