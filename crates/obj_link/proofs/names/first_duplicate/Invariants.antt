use Rattle.std.proofs.Common.{◌≡◌, take, drop, slice_get}
use Rattle.std.specs.List.{flat_map}
use Rattle.obj_link.specs.Names.{with_before, duplicates_of, duplicates}
use Rattle.obj_link.proofs.names.first_duplicate.Given as goal

-- the first duplicate from here on is the first of all
abbrev pub invariant-loop-index : goal.invariant-loop-index
invariant-loop-index l =
    slice_get (flat_map (λ p. duplicates_of p.0 p.1) (with_before (take l.index l.inputs) (drop l.index l.inputs))) 0
    ≡ slice_get (duplicates l.inputs) 0
