use Rattle.ir_prototypes.proofs.PrototypeLaws.{params_in_law, params_in_some}
use Rattle.ir_prototypes.proofs.parameters.read_params.Goals as goal

pub read_commas-requires-clause-law : goal.read_commas-requires-clause-law
read_commas-requires-clause-law c = params_in_law c.args.metadata

pub read_commas-requires-clause-some : goal.read_commas-requires-clause-some
read_commas-requires-clause-some c = params_in_some c.args.metadata
