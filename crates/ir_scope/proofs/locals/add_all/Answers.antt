use Rattle.std.proofs.Common.{arith, subst}
use Rattle.std.proofs.lemmas.List.{take_all}
use Rattle.std.specs.List.{flat_map}
use Rattle.ir_scope.specs.Locals.{Adds}
use Rattle.ir_scope.proofs.Adding.{adds_next}
use Rattle.ir_scope.proofs.locals.add_all.Goals as goal

pub loop-item-preserved : goal.loop-item-preserved
loop-item-preserved g c =
    adds_next g.T.HasValues.values c.args.scalars.now c.loop-item.scalars c.add.new.scalars c.args.items.now c.loop-item.item-index c.item-item.result (omega arith) c.item-item.is
    c.loop-item.invariant c.in_ok-add.ensures

pub returns : goal.returns
returns g c =
    subst (λ xs. Adds c.args.scalars.now c.loop-item.scalars (flat_map g.T.HasValues.values xs)) (take_all c.loop-item.item-index c.args.items.now (omega arith)) c.loop-item.invariant
