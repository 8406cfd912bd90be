use Rattle.std.proofs.Common.{◌∙◌, sym}
use Rattle.ir_flow.proofs.EdgeLemmas.{no_edge}
use Rattle.ir_loaded.specs.Pairs.{loaded}
use Rattle.ir_flow.proofs.ways.Ways.edge.Goals as goal

pub returns-in-None : goal.returns-in-None
returns-in-None c = no_edge (loaded c.args.self.now.0) c.args.self.now.1 c.args.from.now c.args.label.now (sym c.place.ensures ∙ c.in-None.is)
