use Rattle.std.proofs.Common.{◌∙◌, ◌<◌, ◌||◌, arith, length, ap, sym, take}
use Rattle.std.specs.List.{list_any}
use Rattle.std.proofs.lemmas.List.{take_all}
use Rattle.std.proofs.lemmas.List.Folds.{list_any_more}
use Rattle.ir_ident.specs.Names.{same_name}
use Rattle.ir_given.proofs.given.taken_names.Goals as goal

pub loop-item-preserved : goal.loop-item-preserved
loop-item-preserved c = λ name.
    let inside : c.loop-item.item-index < length c.args.names.now = omega arith in
    c.in_ok-insert.ensures.ok name
    ∙ ap (λ before. before || same_name name c.item.inside.name.now) (c.loop-item.invariant name)
    ∙ ap (λ n. list_any (same_name name) (take c.loop-item.item-index c.args.names.now) || same_name name n) (c.item.view_is ∙ c.item-item.is)
    ∙ sym (list_any_more (same_name name) c.args.names.now c.loop-item.item-index c.item-item.result inside)

pub returns : goal.returns
returns c = λ name. c.loop-item.invariant name ∙ ap (list_any (same_name name)) (take_all c.loop-item.item-index c.args.names.now (omega arith))
