use Rattle.std.proofs.Common.{arith, length}
use Rattle.ir_ident.specs.declared.name.Name.TheVariants.{Named}
use Rattle.ir_given.specs.Given.{candidate}
use Rattle.ir_given.proofs.FreeLemmas.{free_all, free_first, free_more, length_more}
use Rattle.ir_given.proofs.given.given_to.Goals as goal

pub returns-then-len-count : goal.returns-then-len-count
returns-then-len-count c =
    let loop = c.loop-number in
    free_first c.args.names.now loop.number (length c.args.names.now) _ loop.given.items (omega arith) loop.invariant.free (omega arith)

pub loop-number-preserved : goal.loop-number-preserved
loop-number-preserved c =
    let loop = c.loop-number in
    record {
      free = free_more c.args.names.now loop.number _ loop.given.items _ loop.invariant.free (c.in_ok-taken.ensures (Named (candidate loop.number)))
          c.in_ok-push_if_free.ensures;
      few = omega (arith, length_more loop.given.items _ _ _ c.in_ok-push_if_free.ensures);
    }

pub returns : goal.returns
returns c =
    let loop = c.loop-number in
    free_all c.args.names.now loop.number (length c.args.names.now) _ loop.given.items (omega arith) loop.invariant.free loop.invariant.few
