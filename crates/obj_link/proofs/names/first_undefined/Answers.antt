use Rattle.std.proofs.Common.{◌≡◌, Some, None, slice_get, ap, sym, ◌∙◌}
use Rattle.obj_link.specs.Names.{undefined_of}
use Rattle.obj_link.proofs.Lists.{plain_found, plain_missed}
use Rattle.obj_link.proofs.FirstNames.{first-undefined_of}
use Rattle.obj_link.proofs.names.first_undefined.Goals as goal

pub returns-in-Some : goal.returns-in-Some
returns-in-Some c =
    let here : slice_get (undefined_of c.args.inputs.now c.get.result.now) 0 ≡ Some c.in-Some.name.now =
    first-undefined_of c.args.inputs.now c.get.result.now ∙ sym c.in-Some.ensures
    in
    ap Some c.as_bytes.ensures
    ∙ plain_found (undefined_of c.args.inputs.now) c.args.inputs.now c.loop-index.index c.get.result.now _ _ c.get.ensures c.loop-index.invariant here

pub loop-index-preserved : goal.loop-index-preserved
loop-index-preserved c =
    let here : slice_get (undefined_of c.args.inputs.now c.get.result.now) 0 ≡ None =
    first-undefined_of c.args.inputs.now c.get.result.now ∙ sym c.in_default.ensures
    in
    plain_missed (undefined_of c.args.inputs.now) c.args.inputs.now c.loop-index.index c.get.result.now _ c.get.ensures c.loop-index.invariant here
