use Rattle.ir_values.proofs.ValueLaws.{typed_literals_law}
use Rattle.ir_values.proofs.values.read_indices.Goals as goal

pub read_each_after_comma-requires : goal.read_each_after_comma-requires
read_each_after_comma-requires c = record { law = typed_literals_law c.args.depth }
