use Rattle.asm_read.proofs.NameLemmas.{has_added}
use Rattle.asm_read.proofs.names.add_name.Goals as goal

pub returns-in-Ok : goal.returns-in-Ok
returns-in-Ok c = has_added c.args.names.now c.insert.new.self c.args.name.now c.in-Ok.ensures.updates
