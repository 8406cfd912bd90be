use Rattle.asm_read.proofs.CheckLemmas.{seen_more}
use Rattle.asm_read.specs.Assembly.{exports}
use Rattle.asm_read.specs.Labels.{is_some_and}
use Rattle.asm_read.proofs.check.exported_names.Goals as goal

pub loop-line-preserved : goal.loop-line-preserved
loop-line-preserved c = λ q.
    seen_more (is_some_and (exports q)) c.args.lines.now _ c.line-item.result _ _ c.loop-line-test.true c.line-item.is (c.loop-line.invariant q) (c.in_ok-add_exported.ensures q)
