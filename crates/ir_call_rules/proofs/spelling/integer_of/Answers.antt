use Rattle.ir_call_rules.proofs.spelling.integer_of.Goals as goal

pub returns : goal.returns
returns c = c.integer_in.ensures
