use Rattle.std.proofs.Common.{◌∙◌, ◌<◌, arith, length}
use Rattle.ir_names.proofs.FaultLemmas.{count_more, number_more}
use Rattle.ir_names.proofs.faults.number_fault.Goals as goal

pub loop-site-preserved : goal.loop-site-preserved
loop-site-preserved c =
    let inside : c.loop-site.site-index < length c.args.sites.now = omega arith in
    let one = count_more c.args.sites.now c.loop-site.site-index c.site-item.result c.loop-site.next c.counted-next.result inside c.site-item.is
    c.loop-site.invariant.next c.counted-next.ensures in
    record {
      first = c.earlier-first.ensures ∙ number_more c.args.sites.now c.loop-site.site-index c.site-item.result _ _ c.loop-site.next c.is_misnumbered.result inside c.site-item.is
          c.loop-site.invariant.first c.loop-site.invariant.next c.is_misnumbered.ensures c.line_where.ensures;
      next = one.0;
      small = omega (arith, one.1, c.loop-site.invariant.small);
    }
