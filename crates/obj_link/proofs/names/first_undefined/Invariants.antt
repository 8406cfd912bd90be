use Rattle.std.proofs.Common.{◌≡◌, drop, slice_get}
use Rattle.std.specs.List.{flat_map}
use Rattle.obj_link.specs.Names.{undefined_of, undefined}
use Rattle.obj_link.proofs.names.first_undefined.Given as goal

-- the first undefined need from here on is the first of all
abbrev pub invariant-loop-index : goal.invariant-loop-index
invariant-loop-index l =
    slice_get (flat_map (undefined_of l.inputs) (drop l.index l.inputs)) 0 ≡ slice_get (undefined l.inputs) 0
