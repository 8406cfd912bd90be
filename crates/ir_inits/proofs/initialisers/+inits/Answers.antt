use Rattle.std.proofs.Common.{◌++◌, ◌∙◌, ap, refl, rules, sym, Err, Ok}
use Rattle.std.proofs.lemmas.List.{append-nil}
use Rattle.ir_words.proofs.Numbers.{same_is}
use Rattle.ir_words.specs.declared.class.Class.TheVariants as Classes
use Rattle.ir_rules.specs.Rules.{commas, ◌▷◌}
use Rattle.ir_rules.proofs.Repeats.{appended, begun, each_ended, each_steps, each_stops, fails_so, not_begun, word_read}
use Rattle.ir_rules.proofs.Whole.{read_shorter}
use Rattle.ir_rules.proofs.Words.{before_law}
use Rattle.ir_inits.specs.Initialisers.{inits, parts}
use Rattle.ir_inits.proofs.InitialiserLaws.{inits_law, parts_law}
use Rattle.ir_inits.proofs.initialisers.+inits.Goals as goal

pub read_parts-loop-alloc-smaller : goal.read_parts-loop-alloc-smaller
read_parts-loop-alloc-smaller t c =
    read_shorter (Classes.Comma ▷ parts c.args.depth (inits c.args.depth)) (before_law Classes.Comma _ refl refl (parts_law c.args.depth (inits_law c.args.depth))) refl
    c.loop-alloc.rest (c.in_ok-part.part, c.in_ok-part.after)
    (word_read Classes.Comma (parts c.args.depth (inits c.args.depth)) c.loop-alloc.rest (Ok (c.in_ok-part.part, c.in_ok-part.after))
    (sym c.first-in-loop-alloc.ensures ∙ same_is _ Classes.Comma (sym c.loop-alloc-test.ensures)) (search rules))

pub read_parts-loop-alloc-preserved : goal.read_parts-loop-alloc-preserved
read_parts-loop-alloc-preserved t c =
    each_steps (Classes.Comma ▷ parts c.args.depth (inits c.args.depth)) (before_law Classes.Comma _ refl refl (parts_law c.args.depth (inits_law c.args.depth))) refl
    (λ found. c.loop-alloc.list ++ found) (λ found. c.in_ok-list-2.list ++ found) c.in_ok-part.part c.loop-alloc.rest c.in_ok-part.after _
    (appended c.loop-alloc.list c.in_ok-list-2.list c.in_ok-part.part c.in_ok-list-2.ensures) (begun Classes.Comma c.loop-alloc.rest refl (sym c.first-in-loop-alloc.ensures ∙ same_is _ Classes.Comma (sym c.loop-alloc-test.ensures)))
    (word_read Classes.Comma (parts c.args.depth (inits c.args.depth)) c.loop-alloc.rest (Ok (c.in_ok-part.part, c.in_ok-part.after))
    (sym c.first-in-loop-alloc.ensures ∙ same_is _ Classes.Comma (sym c.loop-alloc-test.ensures)) (search rules))
    c.loop-alloc.invariant

pub read_parts-returns-in_err-part : goal.read_parts-returns-in_err-part
read_parts-returns-in_err-part t c =
    let part = parts c.args.depth (inits c.args.depth) in
    let comma = sym c.first-in-loop-alloc.ensures ∙ same_is _ Classes.Comma (sym c.loop-alloc-test.ensures) in
    fails_so (Unit {0}) (Unit {0}) (λ u. u) (λ x. x) (λ x. x) (part.read c.skip.result) ((commas part).read c.args.rest) c.in_err-part.field-0.0
    c.from_residual-in_err-part.result (search rules)
    (λ n r. each_stops (Classes.Comma ▷ part) (before_law Classes.Comma _ refl refl (parts_law c.args.depth (inits_law c.args.depth))) refl (λ found. c.loop-alloc.list ++ found)
    c.loop-alloc.rest n _ c.loop-alloc.invariant (begun Classes.Comma c.loop-alloc.rest refl comma)
    (word_read Classes.Comma part c.loop-alloc.rest (Err n) comma (ap part.read (sym c.skip.ensures) ∙ r)))
    (search rules)

pub read_parts-returns : goal.read_parts-returns
read_parts-returns t c =
    each_ended (Classes.Comma ▷ parts c.args.depth (inits c.args.depth)) (before_law Classes.Comma _ refl refl (parts_law c.args.depth (inits_law c.args.depth))) refl
    (λ found. c.loop-alloc.list ++ found) c.loop-alloc.rest _ c.loop-alloc.invariant (not_begun Classes.Comma c.loop-alloc.rest (search rules))
    ∙ ap (λ list. Ok (list, c.loop-alloc.rest)) (append-nil c.loop-alloc.list)
