use Rattle.std.proofs.Common.{◌≡◌, ◌∙◌, ◌++◌, Some, ap, sym, refl, arith, length, slice_get}
use Rattle.std.proofs.lemmas.Option.{slice_get_read}
use Rattle.ir_ident.specs.NameMaps.{value_of}
use Rattle.ir_cfg.specs.Reached.{block_successors}
use Rattle.ir_phis.specs.Predecessors.{edges_before, edges_from}
use Rattle.ir_phis.proofs.EdgeLemmas.{flat_more}
use Rattle.ir_phis.proofs.predecessors.predecessors.Goals as goal

pub loop-from-preserved : goal.loop-from-preserved
loop-from-preserved c =
    let at : slice_get c.args.blocks.now c.loop-from.from ≡ Some c.index-blocks-from.result =
    slice_get_read c.args.blocks.now (length c.args.blocks.now) c.loop-from.from c.index-blocks-from.result refl (omega arith) c.index-blocks-from.is in
    record {
      sized = c.in_ok-push_edges.ensures.sized ∙ c.loop-from.invariant.sized;
      told = λ place inside.
          c.in_ok-push_edges.ensures.told place (omega (arith, inside, c.loop-from.invariant.sized))
          ∙ ap (λ old. old ++ edges_from place c.loop-from.from (block_successors (value_of c.args.places.now) (Some c.index-blocks-from.result))) (c.loop-from.invariant.told place inside)
          ∙ ap (λ b. edges_before (value_of c.args.places.now) c.args.blocks.now place c.loop-from.from ++ edges_from place c.loop-from.from (block_successors (value_of c.args.places.now) b)) (sym at)
          ∙ flat_more (λ from. edges_from place from (block_successors (value_of c.args.places.now) (slice_get c.args.blocks.now from))) c.loop-from.from;
    }
