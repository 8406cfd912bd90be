use Rattle.std.proofs.Common.{sym, ◌∙◌, below_more}
use Rattle.asm_read.proofs.CheckLemmas.{opened_more, refused_here, seen_more}
use Rattle.asm_read.specs.Checks.{gives}
use Rattle.asm_read.specs.Labels.{is_some_and}
use Rattle.asm_read.proofs.check.first_refused.Goals as goal

pub loop-at-preserved : goal.loop-at-preserved
loop-at-preserved c =
    let lines = c.args.lines.now in
    let line = c.index-lines-at.result in
    let inv = c.loop-at.invariant in
    record {
      opened = opened_more lines _ line _ _ c.loop-at-test.true c.index-lines-at.is inv.opened c.opens-opened.ensures;
      seen = λ q. seen_more (is_some_and (gives q)) lines _ line _ _ c.loop-at-test.true c.index-lines-at.is (inv.seen q) (c.in_ok-add_named.ensures q);
      passed = below_more _ _ inv.passed (sym (refused_here lines _ line _ _ _ c.loop-at-test.true c.index-lines-at.is inv.opened inv.seen c.requires) ∙ sym c.if-is_refused.ensures);
    }
