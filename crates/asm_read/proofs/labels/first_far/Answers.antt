use Rattle.std.proofs.Common.{sym, ◌∙◌, below_more, arith}
use Rattle.asm_read.specs.Checks.{place_in}
use Rattle.asm_read.proofs.LabelLemmas.{far_here, size_more}
use Rattle.asm_read.proofs.labels.first_far.Goals as goal

pub loop-at-preserved : goal.loop-at-preserved
loop-at-preserved c =
    let lines = c.args.lines.now in
    let line = c.index-lines-at.result in
    let inv = c.loop-at.invariant in
    record {
      before = size_more lines _ line c.loop-at.before c.size_of-before.result c.loop-at-test.true c.index-lines-at.is inv.before c.size_of-before.ensures.value;
      few = omega (arith, inv.few, c.size_of-before.ensures.one);
      passed = below_more _ _ inv.passed (sym (far_here lines _ line c.loop-at.before (place_in c.args.places.now) c.loop-at-test.true c.index-lines-at.is inv.before c.requires) ∙ sym c.if-is_missed.ensures);
    }
