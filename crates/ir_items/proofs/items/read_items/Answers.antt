use Rattle.std.proofs.Common.{◌++◌, List, Ok, ap, refl, rules, ◌∙◌}
use Rattle.std.specs.Prelude.{Option, filter_map}
use Rattle.std.proofs.lemmas.List.{append-nil}
use Rattle.ir_rules.proofs.Repeats.{each_ended, each_fails, each_steps, sifted}
use Rattle.ir_rules.proofs.Whole.{read_shorter}
use Rattle.ir_items.specs.Entities.{entities, modules}
use Rattle.ir_entities.specs.declared.entity.Entity.{Entity}
use Rattle.ir_items.proofs.EntityLaws.{entities_law}
use Rattle.ir_items.proofs.items.read_items.Goals as goal

pub returns-in_err-found : goal.returns-in_err-found
returns-in_err-found c =
    each_fails entities entities_law refl (λ (found : List (Option Entity)). c.loop-alloc.list.items ++ filter_map (λ e. e) found) c.loop-alloc.rest (modules.read c.args.rest)
    (Unit {0}) (Unit {0}) (λ m. m) (λ x. x) (λ x. (x.0.items, x.1)) c.in_err-found.field-0.0 _ (search rules) c.loop-alloc.invariant (search rules) (search rules)

pub loop-alloc-smaller : goal.loop-alloc-smaller
loop-alloc-smaller c = read_shorter entities entities_law refl c.loop-alloc.rest (c.in_ok-found.found, c.in_ok-found.after) (search rules)

pub loop-alloc-preserved : goal.loop-alloc-preserved
loop-alloc-preserved c =
    each_steps entities entities_law refl (λ (found : List (Option Entity)). c.loop-alloc.list.items ++ filter_map (λ e. e) found)
    (λ (found : List (Option Entity)). c.push_found.new.list.items ++ filter_map (λ e. e) found) c.in_ok-found.found c.loop-alloc.rest c.in_ok-found.after _
    (sifted (λ e. e) c.loop-alloc.list.items c.push_found.new.list.items c.in_ok-found.found (search rules)) (search rules) (search rules) c.loop-alloc.invariant

pub returns : goal.returns
returns c =
    each_ended entities entities_law refl (λ (found : List (Option Entity)). c.loop-alloc.list.items ++ filter_map (λ e. e) found) c.loop-alloc.rest _
    c.loop-alloc.invariant (search rules)
    ∙ ap (λ list. Ok (list, c.loop-alloc.rest)) (append-nil c.loop-alloc.list.items)
