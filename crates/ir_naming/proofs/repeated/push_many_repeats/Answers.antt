use Rattle.std.proofs.Common.{◌<◌, arith, length}
use Rattle.ir_naming.proofs.RepeatedLemmas.{known_more, repeats_more}
use Rattle.ir_naming.proofs.repeated.push_many_repeats.Goals as goal

pub loop-defined-preserved : goal.loop-defined-preserved
loop-defined-preserved c =
    let inside : c.loop-defined.defined-index < length c.args.names.now = omega arith in
    record {
      said = repeats_more c.args.names.now c.loop-defined.defined-index c.defined-item.result _ _ _ _ inside c.defined-item.is
          c.loop-defined.invariant.said (c.loop-defined.invariant.known c.defined-item.result.name) c.in_ok-push_if_seen.ensures;
      known = λ name. known_more c.args.names.now c.loop-defined.defined-index c.defined-item.result name _ _ inside c.defined-item.is
          (c.loop-defined.invariant.known name) (c.in_ok-see.ensures name);
    }
