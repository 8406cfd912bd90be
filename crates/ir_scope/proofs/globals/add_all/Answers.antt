use Rattle.std.proofs.Common.{arith, ap, option_map, ◌∙◌, take, Some, None, if◌then◌else◌}
use Rattle.std.proofs.lemmas.List.{take_all}
use Rattle.ir_ident.proofs.PlaceLemmas.{place_by-more}
use Rattle.ir_ident.specs.Names.{same_name}
use Rattle.ir_ident.specs.Places.{place_by}
use Rattle.ir_ident.specs.NameMaps.{or_else, value_of}
use Rattle.ir_scope.proofs.Adding.{item_added}
use Rattle.ir_scope.proofs.globals.add_all.Goals as goal

pub loop-place-preserved : goal.loop-place-preserved
loop-place-preserved g c = λ name.
    let name_of = g.T.Item.name_of in
    let item_at = g.T.Item.item_at in
    let old = value_of c.loop-place.found name in
    let item = c.index-list-place.result in
    c.in_ok-add.ensures.ok name
    ∙ ap (λ own. or_else old (if same_name name own then Some c.at.result else None)) c.name.ensures
    ∙ ap (λ found. or_else old (if same_name name (name_of item) then Some found else None)) c.at.ensures
    ∙ item_added item_at (value_of c.args.found.now name) old (place_by name_of (take c.loop-place.place c.args.list.now) name)
    (same_name name (name_of item)) c.loop-place.place (c.loop-place.invariant name)
    ∙ ap (λ place. or_else (value_of c.args.found.now name) (option_map item_at place))
    (place_by-more name_of c.args.list.now c.loop-place.place item name (omega arith) c.index-list-place.is)

pub returns : goal.returns
returns g c = λ name.
    c.loop-place.invariant name
    ∙ ap (λ xs. or_else (value_of c.args.found.now name) (option_map g.T.Item.item_at (place_by g.T.Item.name_of xs name))) (take_all c.loop-place.place c.args.list.now (omega arith))
