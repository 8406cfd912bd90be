use Rattle.std.proofs.Common.{arith}
use Rattle.asm_read.proofs.LabelLemmas.{place_more, size_more}
use Rattle.asm_read.proofs.labels.label_places.Goals as goal

pub loop-line-preserved : goal.loop-line-preserved
loop-line-preserved c =
    let lines = c.args.lines.now in
    let line = c.line-item.result in
    let inv = c.loop-line.invariant in
    record {
      places = λ q. place_more lines _ line c.loop-line.before q _ _ c.loop-line-test.true c.line-item.is inv.before (inv.places q) (c.in_ok-add_place.ensures q);
      before = size_more lines _ line c.loop-line.before c.size_of-before.result c.loop-line-test.true c.line-item.is inv.before c.size_of-before.ensures.value;
      few = omega (arith, inv.few, c.size_of-before.ensures.one);
    }
