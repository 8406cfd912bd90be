use Rattle.std.proofs.Common.{subst, ◌∙◌}
use Rattle.std.proofs.lemmas.List.{take_all}
use Rattle.asm_inst.specs.Bytes.{IsAbsent}
use Rattle.asm_inst.proofs.BytesLemmas.{absent_more, cut_here, not_absent}
use Rattle.asm_inst.proofs.bytes.cut_at.Goals as goal

pub returns-then-bytes-at : goal.returns-then-bytes-at
returns-then-bytes-at c = (cut_here _ _ _ c.loop-at-test.true c.if-bytes-at.true, c.loop-at.invariant)

pub loop-at-preserved : goal.loop-at-preserved
loop-at-preserved c = absent_more _ _ _ c.loop-at-test.true c.loop-at.invariant c.if-bytes-at.false

pub returns : goal.returns
returns c = λ prefix back e.
    not_absent _ prefix back (subst (IsAbsent c.args.byte) (take_all _ _ c.loop-at-test.false ∙ e) c.loop-at.invariant)
