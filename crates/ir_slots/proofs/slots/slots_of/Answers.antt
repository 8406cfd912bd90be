use Rattle.std.proofs.Common.{◌∙◌, None, Some, if◌then◌else◌, arith, ap}
use Rattle.std.proofs.lemmas.List.{take_all}
use Rattle.ir_ident.proofs.PlaceLemmas.{place_by-more}
use Rattle.ir_ident.specs.NameMaps.{or_else, value_of}
use Rattle.ir_ident.specs.Names.{same_name}
use Rattle.ir_slots.specs.Slots.{slot_of}
use Rattle.ir_slots.proofs.slots.slots_of.Goals as goal

pub loop-place-preserved : goal.loop-place-preserved
loop-place-preserved c = λ name.
    let item = c.index-names-place.result in
    c.in_ok-add.ensures.ok name
    ∙ ap (λ own. or_else (value_of c.loop-place.slots name) (if same_name name own then Some c.loop-place.place else None)) c.name.view_is
    ∙ ap (λ old. or_else old (if same_name name item then Some c.loop-place.place else None)) (c.loop-place.invariant name)
    ∙ place_by-more (λ own. own) c.args.names.now c.loop-place.place item name (omega arith) c.index-names-place.is

pub returns : goal.returns
returns c = λ name. c.loop-place.invariant name ∙ ap (λ names. slot_of names name) (take_all c.loop-place.place c.args.names.now (omega arith))
