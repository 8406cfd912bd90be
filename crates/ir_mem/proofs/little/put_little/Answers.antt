use Rattle.std.proofs.Common.{◌∙◌, arith, length}
use Rattle.std.proofs.lemmas.List.{length-set}
use Rattle.ir_mem.specs.Bytes.{to_little}
use Rattle.ir_mem.proofs.LittleLemmas.{put_all, put_more}
use Rattle.ir_mem.proofs.little.put_little.Goals as goal

pub loop-place-preserved : goal.loop-place-preserved
loop-place-preserved c = record {
  long = length-set c.loop-place.bytes c.loop-place.place _ ∙ c.loop-place.invariant.long;
  written = put_more c.loop-place.bytes c.loop-place.place (length c.args.bytes.now) c.loop-place.rest (to_little (length c.args.bytes.now) c.args.number)
      (omega (arith, c.loop-place.invariant.long)) c.loop-place.invariant.long c.loop-place.invariant.written;
}

pub returns : goal.returns
returns c = put_all c.loop-place.bytes c.loop-place.place (length c.args.bytes.now) c.loop-place.rest (to_little (length c.args.bytes.now) c.args.number)
    (omega (arith, c.loop-place.invariant.long)) c.loop-place.invariant.long c.loop-place.invariant.written
