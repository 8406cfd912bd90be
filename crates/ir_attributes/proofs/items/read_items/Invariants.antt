use Rattle.std.proofs.Common.{◌≡◌, ◌++◌, ◌∷◌, [], length}
use Rattle.std.specs.List.{filter_map}
use Rattle.ir_words.specs.declared.class.Class.TheVariants.{Comma}
use Rattle.ir_rules.specs.Repeats.{into}
use Rattle.ir_rules.specs.Rules.{chain}
use Rattle.ir_attributes.specs.Items.{items, may_follow, next_part}
use Rattle.ir_attributes.proofs.items.read_items.Given as goal

abbrev pub invariant-loop-rest : goal.invariant-loop-rest
invariant-loop-rest g l =
    into (λ found. l.list.items ++ filter_map (λ x. x) found) ((chain (Comma ∷ []) [] (next_part (g.E.Element.rule l.item)) may_follow l.before).read l.rest)
    ≡ (items (g.E.Element.rule l.item)).read l.fn.rest

abbrev pub decreases-loop-rest : goal.decreases-loop-rest
decreases-loop-rest g l = length l.rest
