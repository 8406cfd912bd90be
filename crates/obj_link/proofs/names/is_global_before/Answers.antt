use Rattle.std.proofs.Common.{◌≡◌, true, false, sym}
use Rattle.obj_link.specs.Names.{defines_global}
use Rattle.obj_link.proofs.Lists.{any_at, none_at}
use Rattle.obj_link.proofs.names.is_global_before.Goals as goal

pub returns-then-defines_global : goal.returns-then-defines_global
returns-then-defines_global c =
    let defined : defines_global c.get.result.now c.args.name.now ≡ true = cc in
    sym (any_at (λ object. defines_global object c.args.name.now) _ _ _ _ c.get.ensures c.loop-index-test.true defined)

pub loop-index-preserved : goal.loop-index-preserved
loop-index-preserved c =
    let free : defines_global c.get.result.now c.args.name.now ≡ false = cc in
    none_at (λ object. defines_global object c.args.name.now) c.args.inputs.now c.loop-index.index _ c.get.ensures c.loop-index.invariant free
