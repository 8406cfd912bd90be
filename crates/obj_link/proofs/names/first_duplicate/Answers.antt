use Rattle.std.proofs.Common.{◌≡◌, Some, None, slice_get, take, option_map, ap, sym, ◌∙◌}
use Rattle.obj_link.specs.Names.{duplicates_of}
use Rattle.obj_link.proofs.Lists.{before_found, before_missed}
use Rattle.obj_link.proofs.FirstNames.{first-duplicates_of}
use Rattle.obj_link.proofs.names.first_duplicate.Goals as goal

pub returns-in-Some : goal.returns-in-Some
returns-in-Some c =
    let here : slice_get (duplicates_of (take c.loop-index.index c.args.inputs.now) c.get.result.now) 0 ≡ Some c.in-Some.symbol.now.name =
    first-duplicates_of (take c.loop-index.index c.args.inputs.now) c.get.result.now ∙ ap (option_map (λ s. s.name)) (sym c.in-Some.ensures)
    in
    ap Some c.as_bytes.ensures
    ∙ before_found (λ p. duplicates_of p.0 p.1) c.args.inputs.now c.loop-index.index c.get.result.now _ _ c.get.ensures c.loop-index.invariant here

pub loop-index-preserved : goal.loop-index-preserved
loop-index-preserved c =
    let here : slice_get (duplicates_of (take c.loop-index.index c.args.inputs.now) c.get.result.now) 0 ≡ None =
    first-duplicates_of (take c.loop-index.index c.args.inputs.now) c.get.result.now ∙ ap (option_map (λ s. s.name)) (sym c.in_default.ensures)
    in
    before_missed (λ p. duplicates_of p.0 p.1) c.args.inputs.now c.loop-index.index c.get.result.now _ c.get.ensures c.loop-index.invariant here
