use Rattle.std.proofs.Common.{◌∙◌, ap, arith, Some, None, if◌then◌else◌}
use Rattle.std.proofs.lemmas.List.{take_all}
use Rattle.ir_ident.proofs.PlaceLemmas.{place_by-more}
use Rattle.ir_ident.specs.Names.{same_name}
use Rattle.ir_sizes.specs.Measured.{place_of}
use Rattle.ir_ident.specs.NameMaps.{or_else}
use Rattle.ir_sizes.proofs.table.places_of.Goals as goal

pub loop-place-preserved : goal.loop-place-preserved
loop-place-preserved c = λ name.
    c.in_ok-add.ensures.ok name
    ∙ ap (λ old. or_else old (if same_name name c.index-defs-place.result.name then Some c.loop-place.place else None)) (c.loop-place.invariant name)
    ∙ place_by-more (λ d. d.name) c.args.defs.now c.loop-place.place c.index-defs-place.result name (omega arith) c.index-defs-place.is

pub returns : goal.returns
returns c = λ name. c.loop-place.invariant name ∙ ap (λ all. place_of all name) (take_all c.loop-place.place c.args.defs.now (omega arith))
