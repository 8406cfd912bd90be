use Rattle.std.proofs.Common.{◌≡◌, ◌∙◌, ◌++◌, ℕ, List, Some, [], ap, sym, subst, refl, arith, length, slice_get, get_or, flat_map}
use Rattle.std.specs.List.{range_with_len}
use Rattle.std.proofs.lemmas.List.{append_assoc}
use Rattle.std.proofs.lemmas.Option.{slice_get_read}
use Rattle.ir_ident.specs.NameMaps.{value_of}
use Rattle.ir_cfg.specs.Reached.{block_successors}
use Rattle.ir_phis.specs.Predecessors.{predecessors}
use Rattle.ir_phis.specs.Rises.{Rises}
use Rattle.ir_phis.specs.Wrong.{wrong_in_block}
use Rattle.ir_phis.proofs.EdgeLemmas.{flat_more}
use Rattle.ir_phis.proofs.SortedLemmas.{rise}
use Rattle.ir_phis.proofs.wrong.push_in_blocks.Goals as goal

pub push_in_block-requires : goal.push_in_block-requires
push_in_block-requires c =
    let from : c.predecessors_at-from.result.now ≡ predecessors (value_of c.args.places.now) c.args.blocks.now c.loop-place.place =
    c.predecessors_at-from.ensures
    ∙ ap (λ (all : List (List ℕ)). get_or all c.loop-place.place []) c.as_slice.ensures.value
    ∙ c.in_ok-all.ensures.told c.loop-place.place (omega arith) in
    subst (λ (xs : List ℕ). Rises 0 xs) (sym from)
    (rise c.loop-place.place 0 (length c.args.blocks.now) (λ from. block_successors (value_of c.args.places.now) (slice_get c.args.blocks.now from)))

pub loop-place-preserved : goal.loop-place-preserved
loop-place-preserved c =
    let from : c.predecessors_at-from.result.now ≡ predecessors (value_of c.args.places.now) c.args.blocks.now c.loop-place.place =
    c.predecessors_at-from.ensures
    ∙ ap (λ (all : List (List ℕ)). get_or all c.loop-place.place []) c.as_slice.ensures.value
    ∙ c.in_ok-all.ensures.told c.loop-place.place (omega arith) in
    let at : slice_get c.args.blocks.now c.loop-place.place ≡ Some c.index-blocks-place.result =
    slice_get_read c.args.blocks.now (length c.args.blocks.now) c.loop-place.place c.index-blocks-place.result refl (omega arith) c.index-blocks-place.is in
    let known = value_of c.args.places.now in
    let all = λ (n : ℕ). flat_map (λ place. wrong_in_block known (predecessors known c.args.blocks.now place) (slice_get c.args.blocks.now place)) (range_with_len 0 n) in
    c.in_ok-push_in_block.ensures
    ∙ ap (λ old. old ++ wrong_in_block known c.predecessors_at-from.result.now (Some c.index-blocks-place.result)) c.loop-place.invariant
    ∙ append_assoc c.args.lines.now.items (all c.loop-place.place) _
    ∙ (λ k. c.args.lines.now.items ++ (all c.loop-place.place ++ wrong_in_block known (from k) (sym at k)))
    ∙ ap (λ xs. c.args.lines.now.items ++ xs)
    (flat_more (λ place. wrong_in_block known (predecessors known c.args.blocks.now place) (slice_get c.args.blocks.now place)) c.loop-place.place)
