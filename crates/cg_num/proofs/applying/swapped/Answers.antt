use Rattle.std.proofs.Common.{arith, ◌∙◌}
use Rattle.cg_num.proofs.SwapLemmas.{byte_fits, byte_within, moved_byte}
use Rattle.cg_num.proofs.applying.swapped.Goals as goal

pub overflow_mul-result : goal.overflow_mul-result
overflow_mul-result c =
    omega (arith, byte_fits c.args.bytes c.loop.counter c.loop.result c.requires c.loop-test.true c.loop.invariant.within)

pub overflow_add-result : goal.overflow_add-result
overflow_add-result c =
    omega (arith, byte_fits c.args.bytes c.loop.counter c.loop.result c.requires c.loop-test.true c.loop.invariant.within)

pub loop-preserved : goal.loop-preserved
loop-preserved c = record {
  within = byte_within c.loop.counter c.loop.result _ c.loop.invariant.within (omega arith);
  is = c.loop.invariant.is ∙ moved_byte c.args.bytes c.loop.counter c.loop.result c.loop.rest c.loop-test.true;
}
