use Rattle.asm_print.proofs.Assembling.{items_assemble, items_assemble_once, items_not_refused}
use Rattle.asm_print.proofs.laws.items_assemble.Goals as goal

pub returns-clause-object : goal.returns-clause-object
returns-clause-object c = items_assemble

pub returns-clause-only : goal.returns-clause-only
returns-clause-only c = items_assemble_once

pub returns-clause-accepted : goal.returns-clause-accepted
returns-clause-accepted c = items_not_refused
