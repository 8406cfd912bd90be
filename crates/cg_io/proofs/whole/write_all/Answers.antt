use Rattle.std.proofs.Common.{rules}
use Rattle.std.proofs.KnownBytes.{Appends-kept}
use Rattle.cg_io.proofs.ToldLemmas.{AppendsProperPrefix-take, Appends-take-add}
use Rattle.cg_io.proofs.whole.write_all.Goals as goal

pub loop-written-preserved : goal.loop-written-preserved
loop-written-preserved g c =
    record {
      within = search rules;
      appended = Appends-take-add _ _ _ _ _ _ c.loop-written.invariant.appended c.in-Ok.ensures.bytes;
      kept = search rules;
    }

pub returns-in-Err-clause-cut_off : goal.returns-in-Err-clause-cut_off
returns-in-Err-clause-cut_off g c =
    AppendsProperPrefix-take _ _ c.loop-written.written _ (search rules)
    (Appends-kept _ _ _ _ c.loop-written.invariant.appended c.in-Err.ensures.bytes)
