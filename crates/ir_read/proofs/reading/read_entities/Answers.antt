use Rattle.std.proofs.Common.{rules}
use Rattle.ir_read.proofs.Settled.{settled_ok, settled_refused}
use Rattle.ir_read.proofs.reading.read_entities.Goals as goal

pub returns-clause-ok : goal.returns-clause-ok
returns-clause-ok c =
    settled_ok c.args.bytes.now c.in-Ok.tokens c.of.result c.read_lexed.result (search rules) (search rules) c.read_lexed.ensures

pub returns-clause-refused : goal.returns-clause-refused
returns-clause-refused c =
    settled_refused c.args.bytes.now c.in-Ok.tokens c.of.result c.read_lexed.result (search rules) (search rules) c.read_lexed.ensures
