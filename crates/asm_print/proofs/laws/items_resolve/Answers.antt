use Rattle.asm_print.proofs.Resolving.{items_resolve}
use Rattle.asm_print.proofs.laws.items_resolve.Goals as goal

pub returns : goal.returns
returns c = items_resolve
