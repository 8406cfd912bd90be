use Rattle.std.proofs.Common.{◌∙◌, ◌<◌, ◌||◌, arith, length, not}
use Rattle.ir_names.proofs.Lines.{least_more}
use Rattle.ir_names.specs.Faults.{line_if, use_faults}
use Rattle.ir_names.specs.Least.{least}
use Rattle.ir_names.specs.Sets.{knows}
use Rattle.ir_names.proofs.faults.use_fault.Goals as goal

pub loop-site-preserved : goal.loop-site-preserved
loop-site-preserved c =
    let inside : c.loop-site.site-index < length c.args.uses.now = omega arith in
    let here = c.line_where.ensures ∙ (λ k. least (line_if (not (c.is_known-known.ensures k)) c.site-item.result)) in
    c.earlier-first.ensures
    ∙ least_more (use_faults (λ s. knows c.args.defined.now s || knows c.args.own.now s)) c.args.uses.now c.loop-site.site-index c.site-item.result _ _ inside c.site-item.is
    c.loop-site.invariant here
