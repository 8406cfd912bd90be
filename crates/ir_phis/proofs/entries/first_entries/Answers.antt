use Rattle.std.proofs.Common.{◌∙◌, ap, arith, Some, None, if◌then◌else◌}
use Rattle.std.proofs.lemmas.List.{take_all}
use Rattle.ir_ident.proofs.PlaceLemmas.{place_by-more}
use Rattle.ir_ident.specs.Names.{same_name}
use Rattle.ir_ident.specs.NameMaps.{or_else}
use Rattle.ir_phis.specs.Entries.{first_entry}
use Rattle.ir_phis.proofs.entries.first_entries.Goals as goal

pub loop-place-preserved : goal.loop-place-preserved
loop-place-preserved c = λ name.
    c.in_ok-add.ensures.ok name
    ∙ ap (λ old. or_else old (if same_name name c.index-entries-place.result.block.name then Some c.loop-place.place else None)) (c.loop-place.invariant name)
    ∙ place_by-more (λ e. e.block.name) c.args.entries.now c.loop-place.place c.index-entries-place.result name (omega arith) c.index-entries-place.is

pub returns : goal.returns
returns c = λ name. c.loop-place.invariant name ∙ ap (λ all. first_entry all name) (take_all c.loop-place.place c.args.entries.now (omega arith))
