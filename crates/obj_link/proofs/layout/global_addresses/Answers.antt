use Rattle.std.proofs.Common.{◌≡◌, ℕ, ◌++◌, ap, ◌∙◌, arith, take, map, filter}
use Rattle.obj_link.specs.Layout.{size_of, globals_of, addressed}
use Rattle.obj_link.specs.declared.sections.SectionAddresses.{SectionAddresses}
use Rattle.obj_link.proofs.Placing.{sum_at, sum_at_le, flat_map_at}
use Rattle.obj_link.proofs.layout.global_addresses.Goals as goal

-- the sections of an object whose text begins here
abbrev at : ℕ → SectionAddresses
at text = record { text = text }

pub overflow_add-text : goal.overflow_add-text
overflow_add-text c =
    let within = sum_at_le size_of c.args.inputs.now c.loop-index.index c.get-object.result.now c.get-object.ensures in
    omega arith

pub loop-index-preserved : goal.loop-index-preserved
loop-index-preserved c =
    let within = sum_at_le size_of c.args.inputs.now c.loop-index.index c.get-object.result.now c.get-object.ensures in
    let step = sum_at size_of c.args.inputs.now c.loop-index.index c.get-object.result.now c.get-object.ensures in
    let here : c.push_globals.new.found.items ≡ c.loop-index.found.items ++ globals_of c.args.inputs.now (take c.loop-index.index c.args.inputs.now) c.get-object.result.now =
    c.in_ok-push_globals.ensures
    ∙ ap (λ symbols. c.loop-index.found.items ++ map (addressed (at c.loop-index.text)) (filter (λ s. s.global) symbols)) c.as_slice.ensures
    ∙ ap (λ text. c.loop-index.found.items ++ map (addressed (at text)) (filter (λ s. s.global) c.get-object.result.now.symbols)) c.loop-index.invariant.begins
    in
    record {
      begins = omega arith;
      whole = flat_map_at (λ p. globals_of c.args.inputs.now p.0 p.1) c.loop-index.found.items _ c.args.inputs.now c.loop-index.index _ _ c.get-object.ensures c.loop-index.invariant.whole here;
    }
