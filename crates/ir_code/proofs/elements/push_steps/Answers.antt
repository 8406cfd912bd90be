use Rattle.std.proofs.Common.{rules, ◌≡◌, ◌∙◌, Some, [], ◌∷◌, ◌++◌, ◌+◌, drop, option_map, option_copied, ap, sym, arith}
use Rattle.std.proofs.lemmas.List.{drop_more}
use Rattle.ir_code.proofs.StepLemmas.{one_more}
use Rattle.ir_code.specs.Prepared.{value_in}
use Rattle.ir_geps.specs.Indices.{operand_index}
use Rattle.ir_geps.specs.Ranges.{part_of}
use Rattle.ir_loaded.specs.Pairs.{loaded}
use Rattle.ir_slots.specs.Slots.{slot_names}
use Rattle.ir_syntax.specs.Types.{tree_of}
use Rattle.ir_code.proofs.elements.push_steps.Goals as goal

pub loop-index-preserved : goal.loop-index-preserved
loop-index-preserved c = λ values.
    let index = c.index-item.result in
    let steps = c.loop-index.steps.items in
    let rest = drop (c.loop-index.index-index + 1) c.args.indices.now in
    let more : c.push.new.self.items ≡ steps ++ c.step_into.result ∷ [] = search rules in
    let all : drop c.loop-index.index-index c.args.indices.now ≡ index ∷ rest =
    drop_more c.args.indices.now c.loop-index.index-index index (omega arith) ∙ ap (λ x. x ∷ rest) (sym c.index-item.is) in
    let is : option_map tree_of (option_copied c.loop-index.part) ≡ Some (tree_of c.in-Some.whole.now) = search rules in
    let part : option_map tree_of (option_copied c.part_of-part.result) ≡ part_of c.args.l.now.0.types (tree_of c.in-Some.whole.now) (operand_index index) = search rules in
    one_more c.args.l.now.0.types (value_in (loaded c.args.l.now) (slot_names c.args.slots.now) values) values steps c.push.new.self.items c.step_into.result
    index rest (drop c.loop-index.index-index c.args.indices.now) (tree_of c.in-Some.whole.now) (option_map tree_of (option_copied c.loop-index.part))
    (option_map tree_of (option_copied c.part_of-part.result)) more all is (c.step_into.ensures values) part
    ∙ c.loop-index.invariant values
