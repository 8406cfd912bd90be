use Rattle.std.proofs.Common.{◌≡◌, ◌<◌, ◌∙◌, ◌∷◌, [], true, false, arith, length, set, subst, sym}
use Rattle.ir_cfg.proofs.SeenLemmas.{mark_at-is, sees-marked, sees-new}
use Rattle.ir_cfg.specs.Searches.{Sees, mark_at}
use Rattle.ir_cfg.proofs.reached.see.Goals as goal

pub returns-then-index : goal.returns-then-index
returns-then-index c =
    let inside : c.args.place < length c.args.marks.now.items = omega arith in
    let is : mark_at c.args.marks.now.items c.args.place ≡ true = mark_at-is _ _ _ inside ∙ sym c.index.ensures ∙ c.if-index.true in
    sees-marked c.args.marks.now.items c.args.todo.now.items c.args.place is

pub returns : goal.returns
returns c =
    let inside : c.args.place < length c.args.marks.now.items = omega arith in
    let none : mark_at c.args.marks.now.items c.args.place ≡ false = mark_at-is _ _ _ inside ∙ sym c.index.ensures ∙ c.if-index.false in
    subst (λ todo. Sees c.args.marks.now.items c.args.todo.now.items (c.args.place ∷ []) (set c.args.marks.now.items c.args.place true) todo) (sym c.in_ok-push.ensures.items)
    (sees-new c.args.marks.now.items c.args.todo.now.items c.args.place inside none)
