use Rattle.std.proofs.Common.{take}
use Rattle.ir_flow.specs.Cases.{AreCases}
use Rattle.ir_loaded.specs.Pairs.{loaded}
use Rattle.ir_flow.proofs.ways.Ways.cases.Given as goal

abbrev pub invariant-loop-case : goal.invariant-loop-case
invariant-loop-case l = AreCases (loaded l.self.0) l.self.1 l.from l.width (take l.case-index l.cases) l.edges.items
