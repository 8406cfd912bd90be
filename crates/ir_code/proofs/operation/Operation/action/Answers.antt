use Rattle.ir_code.proofs.operation.Operation.action.Goals as goal

pub returns-in-Compute-clause-fits : goal.returns-in-Compute-clause-fits
returns-in-Compute-clause-fits c = c.give_or_break.ensures.fits c.args.memory.now

pub returns-in-Freeze-clause-fits : goal.returns-in-Freeze-clause-fits
returns-in-Freeze-clause-fits c = c.freeze.ensures.fits c.args.memory.now

pub returns-in-Put-clause-fits : goal.returns-in-Put-clause-fits
returns-in-Put-clause-fits c = c.put.ensures.fits c.args.memory.now
