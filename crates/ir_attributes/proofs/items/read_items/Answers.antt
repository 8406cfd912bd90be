use Rattle.std.proofs.Common.{rules, ◌++◌, ◌∷◌, [], Ok, ap, refl, sym, ◌∙◌}
use Rattle.std.proofs.lemmas.List.{append-nil}
use Rattle.std.specs.List.{filter_map}
use Rattle.ir_words.proofs.Numbers.{same_is}
use Rattle.ir_words.specs.declared.class.Class.TheVariants.{Comma}
use Rattle.ir_rules.proofs.Repeats.{begun, chain_ended, chain_fails, chain_steps, not_begun, sifted}
use Rattle.ir_rules.proofs.Whole.{read_shorter}
use Rattle.ir_attributes.specs.Items.{may_follow, next_part}
use Rattle.ir_attributes.proofs.ItemLaws.{next_part_law, next_part_some}
use Rattle.ir_attributes.proofs.items.read_items.Goals as goal

pub returns-in_err-found : goal.returns-in_err-found
returns-in_err-found g c =
    let r = c.requires in
    let item = g.E.Element.rule c.args.item.now in
    chain_fails (Comma ∷ []) [] (next_part item) may_follow (next_part_law item r.law r.some r.last r.other) (next_part_some item r.law r.some r.last r.other)
    (λ found. c.loop-rest.list.items ++ filter_map (λ x. x) found) c.loop-rest.before c.loop-rest.rest _ g.E.Element.takes_memory _ (λ m. tt) (λ x. x) _
    c.in_err-found.field-0.0 _ (search rules) c.loop-rest.invariant (begun Comma c.loop-rest.rest refl (search rules)) (search rules)

pub loop-rest-smaller : goal.loop-rest-smaller
loop-rest-smaller g c =
    let r = c.requires in
    let item = g.E.Element.rule c.args.item.now in
    read_shorter (next_part item c.loop-rest.before) (next_part_law item r.law r.some r.last r.other c.loop-rest.before)
    (next_part_some item r.law r.some r.last r.other c.loop-rest.before) c.loop-rest.rest (c.in_ok-found.found, c.in_ok-found.after) (search rules)

pub loop-rest-preserved : goal.loop-rest-preserved
loop-rest-preserved g c =
    let r = c.requires in
    let item = g.E.Element.rule c.args.item.now in
    chain_steps (Comma ∷ []) [] (next_part item) may_follow (next_part_law item r.law r.some r.last r.other) (next_part_some item r.law r.some r.last r.other)
    (λ found. c.loop-rest.list.items ++ filter_map (λ x. x) found) (λ found. c.push_found.new.list.items ++ filter_map (λ x. x) found)
    c.loop-rest.before c.may_follow-before.result c.in_ok-found.found c.loop-rest.rest c.in_ok-found.after _ c.may_follow-before.ensures
    (sifted (λ x. x) c.loop-rest.list.items c.push_found.new.list.items c.in_ok-found.found (search rules))
    (begun Comma c.loop-rest.rest refl (sym c.first.ensures ∙ same_is _ Comma (sym c.loop-rest-test.ensures))) (search rules) c.loop-rest.invariant

pub returns : goal.returns
returns g c =
    let r = c.requires in
    let item = g.E.Element.rule c.args.item.now in
    chain_ended (Comma ∷ []) [] (next_part item) may_follow (next_part_law item r.law r.some r.last r.other) (next_part_some item r.law r.some r.last r.other)
    (λ found. c.loop-rest.list.items ++ filter_map (λ x. x) found) c.loop-rest.before c.loop-rest.rest _ c.loop-rest.invariant
    (not_begun Comma c.loop-rest.rest (search rules))
    ∙ ap (λ l. Ok (l, c.loop-rest.rest)) (append-nil c.loop-rest.list.items)
