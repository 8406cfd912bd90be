use Rattle.std.proofs.Common.{◌-◌, ◌<◌, arith, rules, length}
use Rattle.ir_mem.proofs.LittleLemmas.{fits_more, from_little_more, less_more}
use Rattle.ir_mem.proofs.little.little.Goals as goal

pub overflow_mul-number : goal.overflow_mul-number
overflow_mul-number c =
    omega (arith, fits_more c.loop-place.number (length c.args.bytes.now - c.loop-place.place) c.loop-place.invariant.small (omega arith))

pub overflow_add-number : goal.overflow_add-number
overflow_add-number c =
    let small : c.from.result < 256 = search rules in
    omega (arith, small, fits_more c.loop-place.number (length c.args.bytes.now - c.loop-place.place) c.loop-place.invariant.small (omega arith))

pub loop-place-preserved : goal.loop-place-preserved
loop-place-preserved c = record {
  within = omega arith;
  value = from_little_more c.args.bytes.now c.loop-place.place c.loop-place.number c.from.result (omega arith) c.loop-place.invariant.within (search rules) c.loop-place.invariant.value;
  small = less_more c.loop-place.number c.from.result c.loop-place.place (length c.args.bytes.now) (omega arith) c.loop-place.invariant.within c.loop-place.invariant.small (search rules);
}
