use Rattle.ir_access.proofs.loads.load.Goals as goal

pub returns-in-Number-clause-fits : goal.returns-in-Number-clause-fits
returns-in-Number-clause-fits c = c.give_or_break.ensures.fits c.args.memory.now
