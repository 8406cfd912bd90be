use Rattle.std.proofs.Common.{rules, ◌∙◌}
use Rattle.ir_read.proofs.Ends.{drop_end, drop_step}
use Rattle.ir_read.proofs.reading.from_bad.Goals as goal

pub loop-rest-preserved : goal.loop-rest-preserved
loop-rest-preserved c = drop_step c.args.left c.loop-rest.rest c.skip-rest.result (search rules) (search rules) ∙ c.loop-rest.invariant

pub returns : goal.returns
returns c = drop_end c.args.left c.loop-rest.rest (search rules) ∙ c.loop-rest.invariant
