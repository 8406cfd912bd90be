use Rattle.std.proofs.Common.{◌∙◌, ap, arith, Some, None, if◌then◌else◌}
use Rattle.std.proofs.lemmas.List.{take_all}
use Rattle.ir_ident.proofs.PlaceLemmas.{place_by-more}
use Rattle.ir_ident.specs.Names.{same_name}
use Rattle.ir_cfg.specs.Reached.{label_place}
use Rattle.ir_ident.specs.NameMaps.{or_else}
use Rattle.ir_cfg.proofs.reached.label_places.Goals as goal

pub loop-place-preserved : goal.loop-place-preserved
loop-place-preserved c = λ name.
    c.in_ok-add.ensures.ok name
    ∙ ap (λ old. or_else old (if same_name name c.index-blocks-place.result.label then Some c.loop-place.place else None)) (c.loop-place.invariant name)
    ∙ place_by-more (λ b. b.label) c.args.blocks.now c.loop-place.place c.index-blocks-place.result name (omega arith) c.index-blocks-place.is

pub returns : goal.returns
returns c = λ name. c.loop-place.invariant name ∙ ap (λ all. label_place all name) (take_all c.loop-place.place c.args.blocks.now (omega arith))
