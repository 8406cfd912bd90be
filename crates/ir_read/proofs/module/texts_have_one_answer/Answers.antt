use Rattle.ir_read.proofs.OneAnswer.{first_not_memory}
use Rattle.ir_read.proofs.SomeAnswer.{one_answer}
use Rattle.ir_read.proofs.module.texts_have_one_answer.Goals as goal

pub returns-clause-one : goal.returns-clause-one
returns-clause-one c = one_answer

pub returns-clause-not_memory : goal.returns-clause-not_memory
returns-clause-not_memory c = first_not_memory
