use Rattle.std.proofs.Common.{rules, ◌∙◌}
use Rattle.ir_read.proofs.Ends.{line_end, line_step}
use Rattle.ir_read.proofs.reading.last_line.Goals as goal

pub loop-line-preserved : goal.loop-line-preserved
loop-line-preserved c =
    line_step c.loop-line.line c.line-line.result c.loop-line.rest c.skip-rest.result (search rules) (search rules) (search rules) ∙ c.loop-line.invariant

pub returns : goal.returns
returns c = line_end c.loop-line.line c.loop-line.rest (search rules) ∙ c.loop-line.invariant
