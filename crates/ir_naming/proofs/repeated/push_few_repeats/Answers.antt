use Rattle.std.proofs.Common.{◌<◌, arith, length, refl}
use Rattle.ir_naming.proofs.RepeatedLemmas.{repeats_more}
use Rattle.ir_naming.proofs.repeated.push_few_repeats.Goals as goal

pub loop-place-preserved : goal.loop-place-preserved
loop-place-preserved c =
    let inside : c.loop-place.place < length c.args.names.now = omega arith in
    repeats_more c.args.names.now c.loop-place.place c.index-names-place.result _ _ _ _ inside c.index-names-place.is
    c.loop-place.invariant refl c.in_ok-push_if_among.ensures
