use Rattle.std.proofs.Common.{◌≡◌, ◌∙◌, ap, get_or, length, set, sym}
use Rattle.ir_ident.specs.NameMaps.{value_of}
use Rattle.ir_sizes.proofs.PassLemmas.{known_names, one_more_step, place_in, whole_pass}
use Rattle.ir_sizes.specs.Measured.{body_extent, extent_at, extents_by, known_by}
use Rattle.ir_sizes.specs.Passes.{known_or}
use Rattle.ir_sizes.proofs.rounds.pass.Goals.{then-is_forward, else-is_forward}
use Rattle.ir_sizes.proofs.rounds.pass.Goals as goal

pub loop-step-preserved : goal.loop-step-preserved
loop-step-preserved c =
    let defs = c.args.defs.now in
    let xs = c.loop-step.table.extents.items in
    let place = c.if-is_forward.place in
    let at : place ≡ place_in c.args.is_forward (length defs) c.loop-step.step = elim c.if-is_forward.branch [
      | then-is_forward w ↦ w.place-is ∙ ap (λ f. place_in f (length defs) c.loop-step.step) (sym w.if-is_forward.true)
      | else-is_forward w ↦ w.place-is ∙ ap (λ f. place_in f (length defs) c.loop-step.step) (sym w.if-is_forward.false)
    ] in
    let known : known_by c.loop-step.table ≡ extents_by defs xs =
    (λ k name. known_names defs (value_of c.loop-step.table.places) xs (λ n. ap (λ p. value_of p n) c.loop-step.invariant.places ∙ c.requires.places n) name k) in
    record {
      places = c.measure-is_new.ensures.places ∙ c.loop-step.invariant.places;
      pass = one_more_step defs c.args.table.now.extents.items xs c.measure-is_new.new.table.extents.items c.loop-step.found c.measure-is_new.result
          c.args.is_forward c.loop-step.step place c.index-defs-place.result c.loop-step.invariant.pass c.loop-step-test.true at c.index-defs-place.is
          (c.measure-is_new.ensures.extents
          ∙ ap (λ names. set xs place (known_or (extent_at xs place) (body_extent names (get_or c.args.defs.now place c.index-defs-place.result).body))) known
          ∙ ap (λ d. set xs place (known_or (extent_at xs place) (body_extent (extents_by defs xs) d.body))) (sym c.index-defs-place.is))
          c.measure-is_new.ensures.same;
      measured = c.measure-is_new.ensures.measured;
    }

pub returns-clause-pass : goal.returns-clause-pass
returns-clause-pass c = whole_pass _ _ _ _ c.args.is_forward c.loop-step.step c.loop-step-test.false c.loop-step.invariant.pass
