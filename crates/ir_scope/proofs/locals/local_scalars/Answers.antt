use Rattle.std.proofs.Common.{◌∙◌, ◌++◌, ap}
use Rattle.std.specs.List.{flat_map}
use Rattle.ir_ident.specs.NameMaps.{or_else}
use Rattle.ir_scope.specs.Locals.{body_values, param_values, scalar_among}
use Rattle.ir_scope.proofs.Adding.{adds_after, adds_same}
use Rattle.ir_scope.proofs.locals.local_scalars.Goals as goal

pub returns : goal.returns
returns c = λ name.
    adds_after c.in_ok-scalars.scalars c.add_all.new.scalars c.add_body.new.scalars (flat_map param_values c.args.function.now.params) (body_values c.args.function.now.blocks)
    (adds_same param_values c.in_ok-scalars.scalars c.add_all.new.scalars c.as_slice.result.now c.args.function.now.params c.as_slice.ensures c.in_ok-add_all.ensures)
    c.in_ok-add_body.ensures name
    ∙ ap (λ old. or_else old (scalar_among (flat_map param_values c.args.function.now.params ++ body_values c.args.function.now.blocks) name)) (c.in_ok-scalars.ensures name)
