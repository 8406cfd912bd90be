use Rattle.std.proofs.Common.{◌≡◌, ◌∙◌, ◌∷◌, [], ℕ, List, Bool, length, slice_get, arith, ap, rules, subst}
use Rattle.ir_cfg.proofs.SearchLemmas.{Search, all-marked, search-end, search-full, search-next, search-start}
use Rattle.ir_cfg.specs.Reached.{block_successors}
use Rattle.ir_cfg.specs.Searches.{Sees}
use Rattle.ir_cfg.proofs.reached.reachable_marks.Goals as goal

pub loop-step-init : goal.loop-step-init
loop-step-init c = record {
  places = c.in_ok-places.ensures;
  search = search-start c.args.blocks.now c.see.new.marks.items c.see.new.todo.items
      (subst (λ (marks : List Bool). Sees marks [] (0 ∷ []) c.see.new.marks.items c.see.new.todo.items) c.in_ok-marks.ensures
      (subst (λ (todo : List ℕ). Sees c.in_ok-marks.marks.items todo (0 ∷ []) c.see.new.marks.items c.see.new.todo.items) c.new-todo.ensures.items c.in_ok-see.ensures));
}

pub loop-step-preserved : goal.loop-step-preserved
loop-step-preserved c = record {
  places = c.loop-step.invariant.places;
  search = search-next c.args.blocks.now c.loop-step.step c.in-Some.place c.loop-step.marks.items c.loop-step.todo.items c.pop.new.self.items c.see_all.new.marks.items
      c.see_all.new.todo.items c.in_ok-successors.successors.items c.loop-step.invariant.search (search rules)
      (c.in_ok-successors.ensures ∙ ap (λ known. block_successors known (slice_get c.args.blocks.now c.in-Some.place)) (λ k name. c.loop-step.invariant.places name k))
      (search rules);
}

pub returns-in_default : goal.returns-in_default
returns-in_default c =
    let end : Search c.args.blocks.now c.loop-step.step c.loop-step.marks.items [] =
    subst (Search c.args.blocks.now c.loop-step.step c.loop-step.marks.items) (search rules) c.loop-step.invariant.search in
    record {
      marks = search-end c.args.blocks.now c.loop-step.step c.loop-step.marks.items (omega arith) end;
      every = all-marked c.args.blocks.now c.loop-step.step c.loop-step.marks.items end;
    }

pub returns : goal.returns
returns c =
    let all : c.loop-step.step ≡ length c.args.blocks.now = omega arith in
    let end : Search c.args.blocks.now (length c.args.blocks.now) c.loop-step.marks.items [] =
    search-full c.args.blocks.now c.loop-step.marks.items c.loop-step.todo.items
    (subst (λ (n : ℕ). Search c.args.blocks.now n c.loop-step.marks.items c.loop-step.todo.items) all c.loop-step.invariant.search) in
    record {
      marks = search-end c.args.blocks.now (length c.args.blocks.now) c.loop-step.marks.items (omega arith) end;
      every = all-marked c.args.blocks.now (length c.args.blocks.now) c.loop-step.marks.items end;
    }
